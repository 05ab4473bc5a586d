use Rattle.std.proofs.Common.{◌≡◌, ◌≤◌, ◌*◌, drop, length}
use Rattle.std.specs.List.{list_all}
use Rattle.og_types.specs.Ty.{is_finite}
use Rattle.og_types.specs.Values.{joint_values_of, capped_count}
use Rattle.og_types.proofs.+counting.Given as goal

abbrev pub invariant-count::joint_many-types : goal.invariant-count::joint_many-types
invariant-count::joint_many-types l = record {
  rest : capped_count (list_all is_finite (drop l.ty-index l.types)) (l.many * length (joint_values_of (drop l.ty-index l.types))) ≡ capped_count (list_all is_finite l.types) (length (joint_values_of l.types));
  at_most : l.many ≤ 4097;
}
