use Rattle.std.proofs.Common.{◌∙◌, sym, arith}
use Rattle.og_expr.proofs.Ranks.{first_of, ahead_next, ahead_fits, ahead_none, ahead_at_key, place_short}
use Rattle.og_expr.proofs.evaluation.place_in.Goals as goal

pub returns-then-len : goal.returns-then-len
returns-then-len c = place_short c.args.keys.now c.args.found.now c.requires.small (λ e. c.if-len.true (c.len.ensures ∙ e ∙ sym c.len-2.ensures))

pub rank-requires : goal.rank-requires
rank-requires c =
    let ahead = ahead_at_key c.as_slice-key-items.result.now c.args.found.now c.keys.at c.key-item.result c.in-Some-get.v.now c.keys.rank _ c.keys-test.true c.key-item.is (sym c.in-Some-get.ensures.value) c.keys.invariant in
    record { small = (first_of _ _ _ _ _ _ ahead (sym c.in-Some.ensures.many)).small }

pub returns-in_default-rank : goal.returns-in_default-rank
returns-in_default-rank c =
    let ahead = ahead_at_key c.as_slice-key-items.result.now c.args.found.now c.keys.at c.key-item.result c.in-Some-get.v.now c.keys.rank _ c.keys-test.true c.key-item.is (sym c.in-Some-get.ensures.value) c.keys.invariant in
    ahead_none _ _ _ _ _ _ ahead (sym c.in_default-rank.ensures.rank)

pub overflow_add-rank : goal.overflow_add-rank
overflow_add-rank c =
    let ahead = ahead_at_key c.as_slice-key-items.result.now c.args.found.now c.keys.at c.key-item.result c.in-Some-get.v.now c.keys.rank _ c.keys-test.true c.key-item.is (sym c.in-Some-get.ensures.value) c.keys.invariant in
    omega (arith, ahead_fits _ _ _ _ _ _ _ _ ahead (sym c.in-Some.ensures.many) (sym c.in-Some-rank.ensures.rank))

pub keys-preserved : goal.keys-preserved
keys-preserved c =
    let ahead = ahead_at_key c.as_slice-key-items.result.now c.args.found.now c.keys.at c.key-item.result c.in-Some-get.v.now c.keys.rank _ c.keys-test.true c.key-item.is (sym c.in-Some-get.ensures.value) c.keys.invariant in
    ahead_next _ _ _ _ _ _ _ _ ahead (sym c.in-Some.ensures.many) (sym c.in-Some-rank.ensures.rank)
