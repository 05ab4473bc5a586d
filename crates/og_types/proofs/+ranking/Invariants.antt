use Rattle.std.proofs.Common.{◌≡◌, ◌≤◌, ◌<◌, ◌+◌, drop, length, true}
use Rattle.std.specs.Option.{option_map}
use Rattle.std.specs.List.{list_all}
use Rattle.og_types.specs.Ty.{is_finite}
use Rattle.og_types.specs.Values.{joint_values_of, joint_rank_of}
use Rattle.og_types.proofs.+ranking.Given as goal

abbrev pub invariant-rank::joint_place-types : goal.invariant-rank::joint_place-types
invariant-rank::joint_place-types l = record {
  rest : option_map (λ k. l.rank + k) (joint_rank_of (drop l.at l.types) (drop l.at l.values)) ≡ joint_rank_of l.types l.values;
  weighs : l.weight ≡ length (joint_values_of (drop l.at l.types));
  some : 0 < l.weight;
  room : l.rank + l.weight ≤ 4096;
  finite : list_all is_finite (drop l.at l.types) ≡ true;
}
