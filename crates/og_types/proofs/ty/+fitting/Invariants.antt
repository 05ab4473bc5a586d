use Rattle.std.proofs.Common.{◌≡◌, drop}
use Rattle.std.specs.Cmp.Lexicographic.{pointwise}
use Rattle.og_types.specs.Ty.{fits}
use Rattle.og_types.proofs.ty.+fitting.Given as goal

abbrev pub invariant-all_fit-types : goal.invariant-all_fit-types
invariant-all_fit-types l = pointwise fits (drop l.at l.types) (drop l.at l.into) ≡ pointwise fits l.types l.into
