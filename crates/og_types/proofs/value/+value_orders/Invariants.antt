use Rattle.std.proofs.Common.{◌≡◌, ◌≤◌, drop, length}
use Rattle.std.specs.Cmp.Lexicographic.{slice_cmp}
use Rattle.og_types.specs.Value.{order}
use Rattle.og_types.proofs.value.+value_orders.Given as goal

abbrev pub invariant-order_all-values : goal.invariant-order_all-values
invariant-order_all-values l = record {
  rest : slice_cmp order (drop l.at l.values) (drop l.at l.others) ≡ slice_cmp order l.values l.others;
  within : l.at ≤ length l.others;
}
