use Rattle.std.proofs.Common.{◌≡◌, drop}
use Rattle.std.specs.List.{list_all}
use Rattle.og_types.specs.Ty.{bounds_fit}
use Rattle.og_types.proofs.ty.+bounding.Given as goal

abbrev pub invariant-all_bounds_fit-types : goal.invariant-all_bounds_fit-types
invariant-all_bounds_fit-types l = list_all bounds_fit (drop l.ty-index l.types) ≡ list_all bounds_fit l.types
