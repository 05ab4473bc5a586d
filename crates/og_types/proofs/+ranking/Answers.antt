use Rattle.std.proofs.Common.{◌∙◌, ◌≤◌, ◌/◌, sym, ap, subst, arith, rules, refl, length}
use Rattle.std.specs.Prelude.{FitsSigned}
use Rattle.std.specs.Int.{w64}
use Rattle.std.proofs.lemmas.Int.{to_z-of_z}
use Rattle.og_types.specs.Values.{IsSmall, span}
use Rattle.og_types.specs.declared.ty.Ty.TheViews.{the_lemmas}
use Rattle.og_types.proofs.JointRankOf.{part_at, joint_rank_short, joint_rank_goes, joint_rank_stops, row_at, small_range, small_tuple}
use Rattle.og_types.proofs.RankOf.{rank_enum_there, rank_enum_other, rank_enum_past, rank_range, rank_tuple}
use Rattle.og_types.proofs.+ranking.Goals as goal
use Rattle.og_types.proofs.+ranking.Goals.{ty::Ty::place-else-family-of_family-via-then-family-of_family+else-index-cases, ty::Ty::place-else-family-of_family-via-else-family-of_family}

pub rank::joint_place-returns-then-len : goal.rank::joint_place-returns-then-len
rank::joint_place-returns-then-len t c = joint_rank_short c.args.types.now c.args.values.now (λ e. c.if-len.true (c.len.ensures ∙ e ∙ sym c.len-2.ensures))

pub rank::joint_place-place-requires : goal.rank::joint_place-place-requires
rank::joint_place-place-requires t c =
    let inside = c.types.invariant in
    let part = part_at c.args.types.now c.types.at c.ty-item.result c.types.weight c.in-Some-count.count (omega (arith, ap length c.as_slice-ty-items.ensures)) (cc) inside.finite inside.weighs inside.some (omega (arith, inside.room)) (sym c.in-Some-count.ensures.many) in
    (search (rules, the_lemmas), part.small)

pub rank::joint_place-overflow_mul-rank : goal.rank::joint_place-overflow_mul-rank
rank::joint_place-overflow_mul-rank t c =
    let inside = c.types.invariant in
    let part = part_at c.args.types.now c.types.at c.ty-item.result c.types.weight c.in-Some-count.count (omega (arith, ap length c.as_slice-ty-items.ensures)) (cc) inside.finite inside.weighs inside.some (omega (arith, inside.room)) (sym c.in-Some-count.ensures.many) in
    let row = row_at c.ty-item.result c.in-Some-get.value.now c.in-Some-place.place (c.types.weight / c.in-Some-count.count) c.in-Some-count.count c.types.weight part.count_is part.whole c.in-Some-place.ensures in
    omega (arith, row, inside.room)

pub rank::joint_place-overflow_add-rank : goal.rank::joint_place-overflow_add-rank
rank::joint_place-overflow_add-rank t c =
    let inside = c.types.invariant in
    let part = part_at c.args.types.now c.types.at c.ty-item.result c.types.weight c.in-Some-count.count (omega (arith, ap length c.as_slice-ty-items.ensures)) (cc) inside.finite inside.weighs inside.some (omega (arith, inside.room)) (sym c.in-Some-count.ensures.many) in
    let row = row_at c.ty-item.result c.in-Some-get.value.now c.in-Some-place.place (c.types.weight / c.in-Some-count.count) c.in-Some-count.count c.types.weight part.count_is part.whole c.in-Some-place.ensures in
    omega (arith, row, inside.room)

pub rank::joint_place-types-preserved : goal.rank::joint_place-types-preserved
rank::joint_place-types-preserved t c =
    let inside = c.types.invariant in
    let part = part_at c.args.types.now c.types.at c.ty-item.result c.types.weight c.in-Some-count.count (omega (arith, ap length c.as_slice-ty-items.ensures)) (cc) inside.finite inside.weighs inside.some (omega (arith, inside.room)) (sym c.in-Some-count.ensures.many) in
    let row = row_at c.ty-item.result c.in-Some-get.value.now c.in-Some-place.place (c.types.weight / c.in-Some-count.count) c.in-Some-count.count c.types.weight part.count_is part.whole c.in-Some-place.ensures in
    record {
      rest = joint_rank_goes c.args.types.now c.args.values.now c.types.at c.ty-item.result c.in-Some-get.value.now c.types.rank _ c.in-Some-place.place (c.types.weight / c.in-Some-count.count) (omega (arith, ap length c.as_slice-ty-items.ensures)) (cc) (sym c.in-Some-get.ensures.value) c.in-Some-place.ensures part.weighs refl ∙ inside.rest;
      weighs = part.weighs;
      some = part.some_after;
      room = omega (arith, row, inside.room);
      finite = part.finite_after;
    }

pub rank::joint_place-returns-in-None-place : goal.rank::joint_place-returns-in-None-place
rank::joint_place-returns-in-None-place t c =
    joint_rank_stops c.args.types.now c.args.values.now c.types.at c.ty-item.result c.in-Some-get.value.now c.types.rank (omega (arith, ap length c.as_slice-ty-items.ensures)) (cc) (sym c.in-Some-get.ensures.value) c.in-None-place.ensures ∙ c.types.invariant.rest

pub ty::Ty::place-place_between-requires : goal.ty::Ty::place-place_between-requires
ty::Ty::place-place_between-requires t c =
    let few : span c.in-Range-Number.low c.in-Range-Number.high ≤ 4096 = small_range c.in-Range-Number.low c.in-Range-Number.high (subst IsSmall c.in-Range-Number.is-0 c.requires.small) in
    record { few = grind (arith, to_z-of_z, few) }

pub ty::Ty::place-joint_place-requires : goal.ty::Ty::place-joint_place-requires
ty::Ty::place-joint_place-requires t c = (search (rules, the_lemmas), small_tuple c.in-Tuple-Tuple.types (subst IsSmall c.in-Tuple-Tuple.is-0 c.requires.small))

pub ty::Ty::place-returns-then-index-cases : goal.ty::Ty::place-returns-then-index-cases
ty::Ty::place-returns-then-index-cases t c =
    let arm = c.in-Enum-Case in
    rank_enum_there c.args.self.now c.args.v.now arm.family arm.cases arm.of_family arm.index arm.is-0 arm.is-1 c.if-family-of_family.true c.if-index-cases.true

pub ty::Ty::place-returns-else-family-of_family : goal.ty::Ty::place-returns-else-family-of_family
ty::Ty::place-returns-else-family-of_family t c =
    let arm = c.in-Enum-Case in
    elim c.else-family-of_family.branch [
      | ty::Ty::place-else-family-of_family-via-then-family-of_family+else-index-cases w ↦ rank_enum_past c.args.self.now c.args.v.now arm.family arm.cases arm.of_family arm.index arm.is-0 arm.is-1 w.if-family-of_family.true w.if-index-cases.false
      | ty::Ty::place-else-family-of_family-via-else-family-of_family w ↦ rank_enum_other c.args.self.now c.args.v.now arm.family arm.cases arm.of_family arm.index arm.is-0 arm.is-1 w.if-family-of_family.false
    ]

pub ty::Ty::place-returns-in-Range-Number : goal.ty::Ty::place-returns-in-Range-Number
ty::Ty::place-returns-in-Range-Number t c =
    let arm = c.in-Range-Number in
    (let low : FitsSigned w64 c.in-Range-Number.low = search rules in let high : FitsSigned w64 c.in-Range-Number.high = search rules in simp to_z-of_z at c.place_between.ensures)
    ∙ rank_range c.args.self.now c.args.v.now arm.low arm.high arm.number arm.is-0 arm.is-1

pub ty::Ty::place-returns-in-Tuple-Tuple : goal.ty::Ty::place-returns-in-Tuple-Tuple
ty::Ty::place-returns-in-Tuple-Tuple t c =
    c.joint_place.ensures ∙ rank_tuple c.args.self.now c.args.v.now c.in-Tuple-Tuple.types c.in-Tuple-Tuple.values c.in-Tuple-Tuple.is-0 c.in-Tuple-Tuple.is-1
