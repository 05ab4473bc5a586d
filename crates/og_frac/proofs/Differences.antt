-- Laws of differences from 0, and of whole numbers.
use Rattle.std.proofs.Common.{◌≡◌, ℤ, pos, arith, sym, ap, subst, ◌∙◌}
use Rattle.std.specs.Prelude.{◌+ℤ◌, ◌-ℤ◌, ◌*ℤ◌, unsigned_abs}
use Rattle.std.proofs.Math.Nat.{one-mul}
use Rattle.std.proofs.lemmas.Int.{ints}
use Rattle.og_frac.specs.Fraction.{Fraction, Fits, IsFrac, IsInLowestTerms, greatest_common_divisor, in_lowest_terms, sum, difference, product, whole}
use Rattle.og_frac.proofs.Wholes.{whole_lowest}
use Rattle.og_frac.proofs.Rationals.{in_lowest_terms_lowest}

abbrev opposite : Fraction → Fraction
opposite q = record { numerator = pos 0 -ℤ q.numerator; denominator = q.denominator }

opposite_size : (n : ℤ) → unsigned_abs (pos 0 -ℤ n) ≡ unsigned_abs n
opposite_size n = omega (arith, ints)

opposite_part : (n d : ℤ) → pos 0 *ℤ d -ℤ n *ℤ pos 1 ≡ pos 0 -ℤ n
opposite_part n d = omega (arith, ints)

opposite_lowest : (q : Fraction) → IsInLowestTerms q → IsInLowestTerms (opposite q)
opposite_lowest q h = record {
  positive = h.positive;
  reduced = ap (λ n. greatest_common_divisor n q.denominator) (opposite_size q.numerator) ∙ h.reduced;
}

difference_from_zero : (q : Fraction) → IsInLowestTerms q → difference (whole (pos 0)) q ≡ opposite q
unfolding difference
difference_from_zero q h =
    let plain : difference (whole (pos 0)) q ≡ in_lowest_terms (opposite q) =
    (λ i. in_lowest_terms (record { numerator = opposite_part q.numerator (pos q.denominator) i; denominator = one-mul q.denominator i })) in
    plain ∙ in_lowest_terms_lowest (opposite q) (opposite_lowest q h)

pub from_zero_fits : (q : Fraction) → IsFrac q → Fits (difference (whole (pos 0)) q)
from_zero_fits q h =
    let fits : Fits (opposite q) = record {
      numerator_fits = rw (opposite_size q.numerator) h.fits.numerator_fits;
      denominator_fits = h.fits.denominator_fits;
    } in
    subst Fits (sym (difference_from_zero q h.lowest)) fits

times_one : (n : ℤ) → n *ℤ pos 1 ≡ n
times_one n = omega (arith, ints)

pub difference_of_wholes : (a b : ℤ) → difference (whole a) (whole b) ≡ whole (a -ℤ b)
unfolding difference
difference_of_wholes a b =
    let plain : difference (whole a) (whole b) ≡ in_lowest_terms (whole (a -ℤ b)) =
    (λ i. in_lowest_terms (whole (times_one a i -ℤ times_one b i))) in
    plain ∙ in_lowest_terms_lowest (whole (a -ℤ b)) (whole_lowest (a -ℤ b))

pub sum_of_wholes : (a b : ℤ) → sum (whole a) (whole b) ≡ whole (a +ℤ b)
unfolding sum
sum_of_wholes a b =
    let plain : sum (whole a) (whole b) ≡ in_lowest_terms (whole (a +ℤ b)) =
    (λ i. in_lowest_terms (whole (times_one a i +ℤ times_one b i))) in
    plain ∙ in_lowest_terms_lowest (whole (a +ℤ b)) (whole_lowest (a +ℤ b))

pub product_of_wholes : (a b : ℤ) → product (whole a) (whole b) ≡ whole (a *ℤ b)
unfolding product
product_of_wholes a b = in_lowest_terms_lowest (whole (a *ℤ b)) (whole_lowest (a *ℤ b))
