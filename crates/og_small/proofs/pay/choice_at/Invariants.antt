use Rattle.std.proofs.Common.{◌≡◌, drop}
use Rattle.og_small.specs.Meaning.{choice_at}
use Rattle.og_small.proofs.pay.choice_at.Given as goal

abbrev pub invariant-lines : goal.invariant-lines
invariant-lines l = choice_at (drop l.i l.lines) (drop l.i l.choices) l.output ≡ choice_at l.lines l.choices l.output
