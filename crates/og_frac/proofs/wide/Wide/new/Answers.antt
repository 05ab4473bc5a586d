use Rattle.std.proofs.Common.{rules, sym, subst, SFits}
use Rattle.std.specs.Int.{w128}
use Rattle.std.proofs.lemmas.Int.{to_z-of_z}
use Rattle.og_frac.specs.Fraction.{IsInLowestTerms}
use Rattle.og_frac.proofs.LowestTerms.{lowest_from_parts, in_lowest_terms_is}
use Rattle.og_frac.proofs.wide.Wide.new.Goals as goal

pub invariant_of-result : goal.invariant_of-result
invariant_of-result c =
    let fits : SFits w128 c.with_sign_of.result = search rules in
    let made = lowest_from_parts c.args.num _ _ _ c.args.den _ _ (to_z-of_z w128 _ c.ranges.num) c.unsigned_abs-size.ensures.value c.greatest_common_divisor-common.ensures c.with_sign_of.ensures.value (to_z-of_z w128 _ fits) in
    subst IsInLowestTerms (sym made) (in_lowest_terms_is (record { numerator = c.args.num; denominator = c.args.den }) c.requires.positive)

pub returns-clause-value : goal.returns-clause-value
returns-clause-value c =
    let fits : SFits w128 c.with_sign_of.result = search rules in
    lowest_from_parts c.args.num _ _ _ c.args.den _ _ (to_z-of_z w128 _ c.ranges.num) c.unsigned_abs-size.ensures.value c.greatest_common_divisor-common.ensures c.with_sign_of.ensures.value (to_z-of_z w128 _ fits)

pub returns-clause-lowest : goal.returns-clause-lowest
returns-clause-lowest c = subst IsInLowestTerms (sym (returns-clause-value c)) (in_lowest_terms_is (record { numerator = c.args.num; denominator = c.args.den }) c.requires.positive)
