use Rattle.std.proofs.Common.{◌≡◌, drop}
use Rattle.std.specs.Cmp.Lexicographic.{pointwise}
use Rattle.og_types.specs.Ty.{holds}
use Rattle.og_types.proofs.ty.+holding.Given as goal

abbrev pub invariant-all_hold-types : goal.invariant-all_hold-types
invariant-all_hold-types l = pointwise holds (drop l.at l.types) (drop l.at l.values) ≡ pointwise holds l.types l.values
