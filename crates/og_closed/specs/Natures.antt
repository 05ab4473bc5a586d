-- The natures of a game in flat order.
use Rattle.std.specs.Prelude.{ℕ, ◌*◌, List, [], ◌∷◌}
use Rattle.std.specs.List.{flat_map}
use Rattle.og_game.specs.declared.node.GameNodeOf.{GameNodeOf}
use Rattle.og_game.specs.declared.node.GameNodeOf.TheVariants as nodes
use Rattle.og_game.specs.declared.node.Plan.{Plan}
use Rattle.og_game.specs.declared.node.Plan.TheFolds.{fold-Plan}
use Rattle.og_game.specs.Parts.{parts}

-- a nature's number, and what the weights of each of its rows add up to
pub record Chance : Type 0 where
  pub number : ℕ
  pub scale : ℕ

-- a nature itself, and at any other form those of its parts
abbrev pub natures_rule : GameNodeOf (List Chance) → List Chance
natures_rule (nodes.Nature number observes outcome scale rows) = record { number = number; scale = scale } ∷ []
natures_rule n = flat_map (λ natures. natures) (parts n)

-- the natures of a game in flat order
abbrev pub natures_of : Plan → List Chance
natures_of = fold-Plan (List Chance) (λ level. natures_rule level.node)

abbrev pub product : List ℕ → ℕ
product [] = 1
product (n ∷ ns) = n * product ns
