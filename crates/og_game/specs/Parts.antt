-- The parts of a form.
use Rattle.std.specs.Prelude.{List, [], ◌∷◌, map}
use Rattle.og_game.specs.declared.node.GameNodeOf.{GameNodeOf}
use Rattle.og_game.specs.declared.node.GameNodeOf.TheVariants as nodes

-- in flat order: the left before the right, a block's lines from the first to the last, a branch's arms as they stand
abbrev pub parts : {A : Type 0} → GameNodeOf A → List A
parts (nodes.Seq left right) = left ∷ right ∷ []
parts (nodes.Par left right) = left ∷ right ∷ []
parts (nodes.Block block) = map (λ line. line.operation) block.lines
parts (nodes.Branch selector arms) = map (λ arm. arm.game) arms
parts n = []
