use Rattle.std.proofs.Common.{◌≡◌, ◌∙◌, ◌/◌, sym, ap, subst, arith, rules, length, true}
use Rattle.std.specs.Option.{option_map}
use Rattle.og_types.specs.declared.ty.Ty.TheViews.{the_lemmas}
use Rattle.og_types.specs.declared.ty.Ty.{Ty}
use Rattle.og_types.specs.declared.value.Value.TheVariants as value
use Rattle.og_types.specs.Ty.{bounds_fit}
use Rattle.std.specs.Prelude.{slice_get}
use Rattle.og_types.specs.Values.{IsSmall, values_of}
use Rattle.og_types.proofs.JointRankOf.{part_at, all_at, small_tuple, bounds_tuple}
use Rattle.og_types.proofs.ValuesOf.{joint_at_goes, digit_there, at_tuple}
use Rattle.og_types.proofs.+listing.Goals as goal

pub values::joint_item-nonzero_div-left : goal.values::joint_item-nonzero_div-left
values::joint_item-nonzero_div-left t c =
    let inside = c.types.invariant in
    let part = part_at c.args.types.now c.types.ty-index c.ty-item.result c.types.weight c.in-Some.count (omega (arith, ap length c.as_slice-ty-items.ensures)) (cc) inside.finite inside.weighs (omega (arith, inside.within)) inside.few (sym c.in-Some.ensures.many) in
    part.some_after

pub values::joint_item-item-requires : goal.values::joint_item-item-requires
values::joint_item-item-requires t c =
    let inside = c.types.invariant in
    let part = part_at c.args.types.now c.types.ty-index c.ty-item.result c.types.weight c.in-Some.count (omega (arith, ap length c.as_slice-ty-items.ensures)) (cc) inside.finite inside.weighs (omega (arith, inside.within)) inside.few (sym c.in-Some.ensures.many) in
    let bounds = all_at bounds_fit c.args.types.now c.types.ty-index c.ty-item.result (omega (arith, ap length c.as_slice-ty-items.ensures)) (cc) inside.bounds in
    (search (rules, the_lemmas), (part.small, bounds.0))

pub values::joint_item-returns-in-None-2 : goal.values::joint_item-returns-in-None-2
values::joint_item-returns-in-None-2 t c =
    let inside = c.types.invariant in
    let part = part_at c.args.types.now c.types.ty-index c.ty-item.result c.types.weight c.in-Some.count (omega (arith, ap length c.as_slice-ty-items.ensures)) (cc) inside.finite inside.weighs (omega (arith, inside.within)) inside.few (sym c.in-Some.ensures.many) in
    absurd (digit_there c.ty-item.result c.types.left c.types.weight c.in-Some.count (c.types.weight / c.in-Some.count) part.count_is part.whole inside.within part.some_after (sym c.in-None-2.is ∙ c.in_ok-value.ensures))

pub values::joint_item-nonzero_rem-left : goal.values::joint_item-nonzero_rem-left
values::joint_item-nonzero_rem-left t c =
    let inside = c.types.invariant in
    let part = part_at c.args.types.now c.types.ty-index c.ty-item.result c.types.weight c.in-Some.count (omega (arith, ap length c.as_slice-ty-items.ensures)) (cc) inside.finite inside.weighs (omega (arith, inside.within)) inside.few (sym c.in-Some.ensures.many) in
    part.some_after

pub values::joint_item-types-preserved : goal.values::joint_item-types-preserved
values::joint_item-types-preserved t c =
    let inside = c.types.invariant in
    let part = part_at c.args.types.now c.types.ty-index c.ty-item.result c.types.weight c.in-Some.count (omega (arith, ap length c.as_slice-ty-items.ensures)) (cc) inside.finite inside.weighs (omega (arith, inside.within)) inside.few (sym c.in-Some.ensures.many) in
    let bounds = all_at bounds_fit c.args.types.now c.types.ty-index c.ty-item.result (omega (arith, ap length c.as_slice-ty-items.ensures)) (cc) inside.bounds in
    record {
      rest = joint_at_goes c.args.types.now c.types.ty-index c.ty-item.result c.in-Some-2.value c.types.all _ c.types.left (c.types.weight / c.in-Some.count) (omega (arith, ap length c.as_slice-ty-items.ensures)) (cc) part.weighs part.some_after (sym c.in-Some-2.is ∙ c.in_ok-value.ensures) (search rules) ∙ inside.rest;
      weighs = part.weighs;
      within = let some = part.some_after in omega arith;
      few = omega (arith, part.few_after, inside.few);
      finite = part.finite_after;
      bounds = bounds.1;
    }

pub ty::Ty::item-joint_item-requires : goal.ty::Ty::item-joint_item-requires
ty::Ty::item-joint_item-requires t c =
    let fit : Ty → Type 0 = λ u. bounds_fit u ≡ true in
    (search (rules, the_lemmas), (small_tuple c.in-Tuple.types (subst IsSmall c.in-Tuple.is c.requires.small), bounds_tuple c.in-Tuple.types (subst fit c.in-Tuple.is c.requires.bounds)))

pub ty::Ty::item-returns-in_ok-joint_item-in-Tuple : goal.ty::Ty::item-returns-in_ok-joint_item-in-Tuple
ty::Ty::item-returns-in_ok-joint_item-in-Tuple t c =
    c.tuple_value.ensures ∙ ap (option_map value.Tuple) c.in_ok-joint_item-in-Tuple.ensures ∙ at_tuple c.in-Tuple.types c.args.r ∙ (λ j. slice_get (values_of (sym c.in-Tuple.is j)) c.args.r)
