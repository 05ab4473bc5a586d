use Rattle.std.proofs.Common.{sym, subst, ap, ◌∙◌, ◌≡◌, get_or, take}
use Rattle.og_frac.specs.Fraction.{IsFrac, least_common_multiple}
use Rattle.og_frac.specs.Terms.{common_denominator, IsBelowLimit}
use Rattle.og_frac.proofs.TermLaws.{AllFracs_next, common_denominator_next, common_denominator_positive, common_below}
use Rattle.og_frac.proofs.terms.common_denominator.Goals as goal

pub common_with-common-requires-clause-common : goal.common_with-common-requires-clause-common
common_with-common-requires-clause-common c = common_below _ _ c.terms.invariant.fractions c.terms.invariant.below

pub terms-preserved : goal.terms-preserved
terms-preserved c =
    let ts = c.args.terms.now in
    let i = c.terms.term-index in
    let t = get_or ts i c.term-item.result in
    let before = c.terms.invariant.fractions in
    let read : IsFrac t.pay = subst (λ x. IsFrac x.pay) c.term-item.is c.den.ensures.fraction in
    let den : c.den.result ≡ t.pay.denominator = c.den.ensures.value ∙ ap (λ x. x.pay.denominator) c.term-item.is in
    let more = common_denominator_next ts i c.term-item.result c.terms-test.true before read in
    let below = c.common_with-common.ensures (common_denominator (take i ts)) (common_denominator_positive (take i ts) before) c.terms.invariant.below in
    record {
      fractions = AllFracs_next ts i c.term-item.result c.terms-test.true before read;
      below = subst (IsBelowLimit c.common_with-common.result) (ap (λ n. least_common_multiple n (common_denominator (take i ts))) den ∙ sym more) below;
    }
