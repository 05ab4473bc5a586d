use Rattle.std.proofs.Common.{◌≡◌, drop}
use Rattle.og_inlining.specs.Trees.{occurs}
use Rattle.og_inlining.proofs.leaves.occurs.Given as goal

abbrev pub invariant-numbers : goal.invariant-numbers
invariant-numbers l = occurs (drop l.one-index l.numbers) l.number ≡ occurs l.numbers l.number
