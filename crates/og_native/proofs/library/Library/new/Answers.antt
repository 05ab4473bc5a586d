use Rattle.std.proofs.Common.{subst}
use Rattle.og_native.specs.Block.{names_of}
use Rattle.og_native.specs.Library.{AreDistinct}
use Rattle.og_native.proofs.library.Library.new.Goals as goal

pub invariant_of-result-clause-distinct : goal.invariant_of-result-clause-distinct
invariant_of-result-clause-distinct g c =
    subst (λ blocks. AreDistinct (names_of blocks)) c.as_slice.ensures.value (c.in-None.ensures)
