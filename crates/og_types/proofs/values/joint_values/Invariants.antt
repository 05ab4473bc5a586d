use Rattle.std.proofs.Common.{◌≡◌, take}
use Rattle.og_types.specs.Values.{joint_values_of}
use Rattle.og_types.proofs.values.joint_values.Given as goal

abbrev pub invariant-ranks : goal.invariant-ranks
invariant-ranks l = l.all ≡ take l.rank (joint_values_of l.types)
