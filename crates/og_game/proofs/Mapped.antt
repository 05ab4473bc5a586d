-- The parts of a form whose parts are mapped.
use Rattle.std.proofs.Common.{◌≡◌, List, [], ◌∷◌, map, refl, ap}
use Rattle.og_game.specs.declared.node.LineOf.{LineOf}
use Rattle.og_game.specs.declared.node.ArmOf.{ArmOf}
use Rattle.og_game.specs.Levels.{line_with, arm_with}

pub operations_with : {A B : Type 0} (f : A → B) (lines : List (LineOf A))
    → map (λ line. line.operation) (map (line_with f) lines) ≡ map (λ line. f line.operation) lines
operations_with f [] = refl
operations_with f (line ∷ lines) = ap (λ those. f line.operation ∷ those) (operations_with f lines)

pub games_with : {A B : Type 0} (f : A → B) (arms : List (ArmOf A))
    → map (λ arm. arm.game) (map (arm_with f) arms) ≡ map (λ arm. f arm.game) arms
games_with f [] = refl
games_with f (arm ∷ arms) = ap (λ those. f arm.game ∷ those) (games_with f arms)
