-- How many decisions stand in a game.
use Rattle.std.specs.Prelude.{ℕ, sum}
use Rattle.og_game.specs.declared.node.GameNodeOf.{GameNodeOf}
use Rattle.og_game.specs.declared.node.GameNodeOf.TheVariants as nodes
use Rattle.og_game.specs.declared.node.Plan.{Plan}
use Rattle.og_game.specs.declared.node.Plan.TheFolds.{fold-Plan}
use Rattle.og_game.specs.Parts.{parts}

-- one for a decision, and at any other form those of its parts
abbrev pub decisions_rule : GameNodeOf ℕ → ℕ
decisions_rule (nodes.Decision number agent observes action allowed) = 1
decisions_rule n = sum (parts n)

abbrev pub decisions_in : Plan → ℕ
decisions_in = fold-Plan ℕ (λ level. decisions_rule level.node)
