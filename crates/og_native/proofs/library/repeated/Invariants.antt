use Rattle.std.proofs.Common.{take}
use Rattle.og_native.specs.Block.{names_of}
use Rattle.og_native.specs.Library.{AreDistinct}
use Rattle.og_native.proofs.library.repeated.Given as goal

abbrev pub invariant-places : goal.invariant-places
invariant-places g l = AreDistinct (take l.at (names_of l.blocks))
