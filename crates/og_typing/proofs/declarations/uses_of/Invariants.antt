use Rattle.std.proofs.Common.{◌≡◌}
use Rattle.std.specs.Prelude.{replicate}
use Rattle.og_typing.proofs.declarations.uses_of.Given as goal

abbrev pub invariant-counts : goal.invariant-counts
invariant-counts l = l.counts ≡ replicate l._number 0
