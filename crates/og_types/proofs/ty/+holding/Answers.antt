use Rattle.std.proofs.Common.{◌∙◌, sym, ap, arith, length}
use Rattle.og_types.specs.Ty.{holds}
use Rattle.og_types.proofs.Pointwise.{pointwise_goes, pointwise_stops}
use Rattle.og_types.proofs.ty.+holding.Goals as goal

pub all_hold-returns-then-not-holds : goal.all_hold-returns-then-not-holds
all_hold-returns-then-not-holds t c =
    pointwise_stops holds c.args.types.now c.args.values.now c.types.at c.ty-item.result c.in-Some.value.now (omega (arith, ap length c.as_slice-ty-items.ensures)) (cc) (sym c.in-Some.ensures.value) (cc) ∙ c.types.invariant

pub all_hold-types-preserved : goal.all_hold-types-preserved
all_hold-types-preserved t c =
    pointwise_goes holds c.args.types.now c.args.values.now c.types.at c.ty-item.result c.in-Some.value.now (omega (arith, ap length c.as_slice-ty-items.ensures)) (cc) (sym c.in-Some.ensures.value) (cc) ∙ c.types.invariant
