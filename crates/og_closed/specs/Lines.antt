-- How many flat lines a game has.
use Rattle.std.specs.Prelude.{ℕ, ◌+◌, Bool, not, is_some, List, length, map, sum, sum_by}
use Rattle.std.specs.List.{count_by}
use Rattle.og_expr.specs.declared.node.Term.{Term}
use Rattle.og_expr.specs.Variables.{as_variable}
use Rattle.og_game.specs.declared.node.Typed.{Typed}
use Rattle.og_game.specs.declared.node.GameNodeOf.{GameNodeOf}
use Rattle.og_game.specs.declared.node.GameNodeOf.TheVariants as nodes
use Rattle.og_game.specs.declared.node.BlockOf.{BlockOf}
use Rattle.og_game.specs.declared.node.LineOf.{LineOf}
use Rattle.og_game.specs.declared.node.Plan.{Plan}
use Rattle.og_game.specs.declared.node.Plan.TheFolds.{fold-Plan}
use Rattle.og_game.specs.Parts.{parts}

-- In a block an expression makes a line, but where it is just a variable, whose wire is there already.
abbrev pub makes_line : Term → Bool
makes_line e = not (is_some (as_variable e))

abbrev pub lines_made : List Term → ℕ
lines_made = count_by makes_line

abbrev pub expressions : List Typed → List Term
expressions results = map (λ r. r.expr) results

-- of a block's line: its inputs, its operation's lines, its returns
abbrev pub lines_at : LineOf ℕ → ℕ
lines_at line = lines_made line.inputs + line.operation + lines_made line.returns

-- of a block: its feedback, its lines, its outputs
abbrev pub lines_in_block : BlockOf ℕ → ℕ
lines_in_block block =
    lines_made (expressions block.feedback) + sum_by lines_at block.lines + lines_made (expressions block.outputs)

-- one for a decision, a nature, a library block and each result of a function, and none for wires; a branch is a line,
-- and so is each of its arms, beside the lines of the arms
abbrev pub lines_rule : GameNodeOf ℕ → ℕ
lines_rule (nodes.Decision number agent observes action allowed) = 1
lines_rule (nodes.Nature number observes outcome scale rows) = 1
lines_rule (nodes.Forward params results) = length results
lines_rule (nodes.Backward params results) = length results
lines_rule (nodes.Native block ports) = 1
lines_rule (nodes.Block block) = lines_in_block block
lines_rule (nodes.Branch selector arms) = 1 + (length arms + sum (map (λ arm. arm.game) arms))
lines_rule n = sum (parts n)

-- how many flat lines a game has
abbrev pub flat_lines : Plan → ℕ
flat_lines = fold-Plan ℕ (λ level. lines_rule level.node)
