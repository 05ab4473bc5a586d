use Rattle.std.proofs.Common.{◌≡◌, ◌≤◌, ◌<◌, ◌++◌, drop, length, true}
use Rattle.std.specs.Prelude.{slice_get}
use Rattle.std.specs.Option.{option_map}
use Rattle.std.specs.List.{list_all}
use Rattle.og_types.specs.Ty.{is_finite, bounds_fit}
use Rattle.og_types.specs.Values.{joint_values_of}
use Rattle.og_types.proofs.+listing.Given as goal

abbrev pub invariant-values::joint_item-types : goal.invariant-values::joint_item-types
invariant-values::joint_item-types l = record {
  rest : option_map (λ vs. l.all ++ vs) (slice_get (joint_values_of (drop l.ty-index l.types)) l.left) ≡ slice_get (joint_values_of l.types) l.r;
  weighs : l.weight ≡ length (joint_values_of (drop l.ty-index l.types));
  within : l.left < l.weight;
  few : l.weight ≤ 4096;
  finite : list_all is_finite (drop l.ty-index l.types) ≡ true;
  bounds : list_all bounds_fit (drop l.ty-index l.types) ≡ true;
}
