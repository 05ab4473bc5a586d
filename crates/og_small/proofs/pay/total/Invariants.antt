use Rattle.std.proofs.Common.{◌≡◌, ◌≤◌, ◌*◌, ◌-◌, ◌^◌, take, cond}
use Rattle.std.specs.Prelude.{sum_by, bytes_eq}
use Rattle.og_small.specs.Meaning.{pay}
use Rattle.og_small.proofs.pay.total.Given as goal

abbrev pub invariant-lines : goal.invariant-lines
invariant-lines l =
    (l.total ≡ sum_by (λ line. cond (bytes_eq line.agent l.agent) (pay l.lines l.choices line) 0) (take l.line-index l.lines))
    × (l.total ≤ (2 ^ 64 - 1) * l.line-index)
