use Rattle.std.proofs.Common.{◌≡◌, false}
use Rattle.std.specs.Prelude.{replicate}
use Rattle.og_typing.proofs.values.none_taken.Given as goal

abbrev pub invariant-ranks : goal.invariant-ranks
invariant-ranks l = l.all ≡ replicate l._rank false
