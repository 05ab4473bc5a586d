use Rattle.std.proofs.Common.{◌≡◌, take}
use Rattle.og_types.specs.Values.{values_of}
use Rattle.og_types.proofs.ty.Ty.values.Given as goal

abbrev pub invariant-ranks : goal.invariant-ranks
invariant-ranks l = l.all ≡ take l.rank (values_of l.self)
