-- What the total order is on fractions in lowest terms.
use Rattle.std.proofs.Common.{◌≡◌, ◌<◌, arith, refl, sym, ap, ◌∙◌, max}
use Rattle.std.specs.Ordering.{nat_cmp, ordering_then}
use Rattle.std.specs.declared.cmp.Ordering.{Ordering}
use Rattle.std.proofs.lemmas.Cmp.{nat_cmp_total, tied_itself}
use Rattle.std.specs.declared.cmp.Ordering.TheVariants.{Less, Equal, Greater}
use Rattle.og_frac.specs.Fraction.{Fraction, order, over_positive, total_order, IsInLowestTerms}
use Rattle.og_frac.specs.laws.Orders.{order_equal}
use Rattle.og_frac.proofs.Rationals.{same_from_SameNumber}

-- of fractions in lowest terms it is the order by number
total_order_is_by : (a b : Fraction) → IsInLowestTerms a → IsInLowestTerms b → over_positive a ≡ a → over_positive b ≡ b → total_order a b ≡ order a b
total_order_is_by a b p q first second =
    (λ i. ordering_then (order (first i) (second i)) (nat_cmp a.denominator b.denominator)) ∙ by (order a b) refl
  where
    by : (r : Ordering) → order a b ≡ r → ordering_then r (nat_cmp a.denominator b.denominator) ≡ r
    by Less e = refl
    by Greater e = refl
    by Equal e =
        let same = same_from_SameNumber a b p q ((order_equal a b).0 e) in
        ap (λ x. nat_cmp a.denominator x.denominator) (sym same) ∙ tied_itself nat_cmp_total a.denominator

positive_is : (q : Fraction) → 0 < q.denominator → over_positive q ≡ q
positive_is q h = let e : max 1 q.denominator ≡ q.denominator = omega arith in (λ i. record { numerator = q.numerator; denominator = e i })

pub total_order_is : (a b : Fraction) → IsInLowestTerms a → IsInLowestTerms b → total_order a b ≡ order a b
total_order_is a b p q = total_order_is_by a b p q (positive_is a p.positive) (positive_is b q.positive)
