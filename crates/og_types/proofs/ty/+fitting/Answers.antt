use Rattle.std.proofs.Common.{◌∙◌, sym, ap, arith, length}
use Rattle.og_types.specs.Ty.{fits}
use Rattle.og_types.proofs.Pointwise.{pointwise_goes, pointwise_stops}
use Rattle.og_types.proofs.ty.+fitting.Goals as goal

pub all_fit-returns-then-not-fits : goal.all_fit-returns-then-not-fits
all_fit-returns-then-not-fits t c =
    pointwise_stops fits c.args.types.now c.args.into.now c.types.at c.ty-item.result c.in-Some.other.now (omega (arith, ap length c.as_slice-ty-items.ensures)) (cc) (sym c.in-Some.ensures.value) (cc) ∙ c.types.invariant

pub all_fit-types-preserved : goal.all_fit-types-preserved
all_fit-types-preserved t c =
    pointwise_goes fits c.args.types.now c.args.into.now c.types.at c.ty-item.result c.in-Some.other.now (omega (arith, ap length c.as_slice-ty-items.ensures)) (cc) (sym c.in-Some.ensures.value) (cc) ∙ c.types.invariant
