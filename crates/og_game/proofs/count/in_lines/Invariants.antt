use Rattle.std.proofs.Common.{◌≡◌, take}
use Rattle.std.specs.Prelude.{sum_by}
use Rattle.og_expr.specs.Counts.{capped}
use Rattle.og_game.specs.Counts.{decisions_in}
use Rattle.og_game.proofs.count.in_lines.Given as goal

abbrev pub invariant-lines : goal.invariant-lines
invariant-lines l = l.all ≡ capped (sum_by (λ line. decisions_in line.operation) (take l.line-index l.lines))
