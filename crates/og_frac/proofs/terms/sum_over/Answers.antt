use Rattle.std.proofs.Common.{◌≡◌, ◌+◌, ◌/◌, ◌≤◌, arith, sym, ap, subst, ◌∙◌, get_or, to_z, of_z, rules}
use Rattle.std.specs.Int.{w64, w128}
use Rattle.std.specs.Prelude.{pos, ◌+ℤ◌, ◌*ℤ◌, unsigned_abs, FitsSigned}
use Rattle.std.proofs.lemmas.Int.{to_z-of_z, fits_signed_from_abs}
use Rattle.og_frac.specs.Fraction.{sign}
use Rattle.og_frac.specs.Terms.{size_over, part_over}
use Rattle.og_frac.proofs.TermLaws.{absolute_over_step, value_over_step, sign_size, next_value, unsigned_abs-add}
use Rattle.og_frac.proofs.terms.sum_over.Goals as goal

pub terms-preserved : goal.terms-preserved
terms-preserved c =
    let ts = c.args.terms.now in
    let i = c.terms.term-index in
    let common = c.args.common in
    let t = get_or ts i c.term-item.result in
    let sizes = absolute_over_step common ts i c.term-item.result c.terms-test.true in
    let parts = value_over_step common ts i c.term-item.result c.terms-test.true in
    let before = to_z w128 c.terms.value-bits in
    let signed = c.with_sign_of-value.result in
    let n = c.term-item.result.pay.numerator in
    let size_is = ap (size_over common) c.term-item.is in
    let added : c.in-Some.size ≡ size_over common c.term-item.result = c.in-Some.ensures.1 in
    let signed_fits : FitsSigned w128 signed = search rules in
    let wide_fits : FitsSigned w128 c.from.result = search rules in
    let narrow_fits : FitsSigned w64 c.num.result = search rules in
    let read : to_z w128 (of_z w128 c.from.result) ≡ n = to_z-of_z w128 c.from.result wide_fits ∙ c.from.ensures ∙ to_z-of_z w64 c.num.result narrow_fits ∙ c.num.ensures.value in
    let part_is : signed ≡ part_over common t =
    c.with_sign_of-value.ensures.value ∙ (λ i. sign (read i) *ℤ pos (added i)) ∙ sign_size c.term-item.result.weight n (common / c.term-item.result.pay.denominator) ∙ ap (part_over common) c.term-item.is in
    let small = unsigned_abs-add before signed c.terms.absolute c.in-Some.size c.terms.invariant.inside c.with_sign_of-value.ensures.size in
    let room : c.terms.absolute + c.in-Some.size ≤ c.args.room = omega arith in
    let sum_fits : FitsSigned w128 (before +ℤ signed) = fits_signed_from_abs w128 _ (omega arith) in
    let now : to_z w128 (of_z w128 (before +ℤ to_z w128 (of_z w128 signed))) ≡ before +ℤ signed =
    ap (λ z. to_z w128 (of_z w128 (before +ℤ z))) (to_z-of_z w128 signed signed_fits) ∙ to_z-of_z w128 _ sum_fits in
    record {
      absolute_left = omega arith;
      value_left = next_value before (part_over common t) _ _ _ _ c.terms.invariant.value_left parts (now ∙ ap (λ z. before +ℤ z) part_is);
      inside = subst (λ z. unsigned_abs z ≤ c.terms.absolute + c.in-Some.size) (sym now) small;
      within = room;
    }
