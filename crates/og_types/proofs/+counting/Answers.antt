use Rattle.std.proofs.Common.{◌∙◌, sym, ap, arith, length}
use Rattle.og_types.proofs.CappedCount.{capped_count_goes}
use Rattle.og_types.proofs.+counting.Goals as goal

pub count::joint_many-types-preserved : goal.count::joint_many-types-preserved
count::joint_many-types-preserved t c = record {
  rest = capped_count_goes c.args.types.now c.types.ty-index c.ty-item.result c.types.many c.in-Some.count c.min-many.result (omega (arith, ap length c.as_slice-ty-items.ensures)) (cc) (sym c.in-Some.ensures.many) c.min-many.ensures ∙ c.types.invariant.rest;
  at_most = omega arith;
}
