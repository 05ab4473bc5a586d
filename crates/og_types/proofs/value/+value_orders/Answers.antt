use Rattle.std.proofs.Common.{◌<◌, ◌∙◌, sym, ap, arith, length, nat_cmp, ◌≡◌}
use Rattle.og_types.specs.Value.{order}
use Rattle.std.proofs.lemmas.Option.{slice_get_within}
use Rattle.og_types.proofs.Pointwise.{slice_cmp_goes, slice_cmp_stops, slice_cmp_ended}
use Rattle.og_types.proofs.value.+value_orders.Goals as goal

pub order_all-returns-then-is_ne : goal.order_all-returns-then-is_ne
order_all-returns-then-is_ne t c =
    slice_cmp_stops order c.args.values.now c.args.others.now c.values.at c.value-item.result c.in-Some.other.now (omega (arith, ap length c.as_slice-value-items.ensures)) (cc) (sym c.in-Some.ensures.value) c.order-found.result c.order-found.ensures (sym c.is_ne.ensures ∙ c.if-is_ne.true) ∙ c.values.invariant.rest

pub order_all-values-preserved : goal.order_all-values-preserved
order_all-values-preserved t c = record {
  rest = slice_cmp_goes order c.args.values.now c.args.others.now c.values.at c.value-item.result c.in-Some.other.now (omega (arith, ap length c.as_slice-value-items.ensures)) (cc) (sym c.in-Some.ensures.value) c.order-found.result c.order-found.ensures (sym c.is_ne.ensures ∙ c.if-is_ne.false) ∙ c.values.invariant.rest;
  within = let there : c.values.at < length c.args.others.now = slice_get_within c.args.others.now c.values.at c.in-Some.other.now (sym c.in-Some.ensures.value) in omega arith;
}

pub order_all-returns : goal.order_all-returns
order_all-returns t c =
    let same_length : length c.as_slice-value-items.result.now ≡ length c.args.values.now = ap length c.as_slice-value-items.ensures in
    let ended = slice_cmp_ended order c.args.values.now c.args.others.now c.values.at (omega arith) (omega (arith, c.values.invariant.within)) in
    c.cmp.ensures ∙ ap (λ n. nat_cmp n c.len-2.result) c.len.ensures ∙ ap (nat_cmp (length c.args.values.now)) c.len-2.ensures ∙ ended ∙ c.values.invariant.rest
