-- The shares of a split add up to one.
use Rattle.std.proofs.Common.{◌≡◌, ◌∙◌, refl, sym, ap, subst, arith, Bool, true, false, cond, Option, Some, None}
use Rattle.std.proofs.Common.{ℕ, zero, suc, ◌*◌, ◌<◌, ℤ, pos, negsuc}
use Rattle.std.specs.Prelude.{◌+ℤ◌, ◌-ℤ◌, ◌*ℤ◌, unsigned_abs, option_and_then}
use Rattle.std.specs.Ordering.{int_eq}
use Rattle.std.proofs.Math.Nat.{mul-pos}
use Rattle.std.proofs.lemmas.Int.{ints}
use Rattle.og_frac.specs.Fraction.{Fraction, IsFrac, IsInLowestTerms, greatest_common_divisor, in_lowest_terms}
use Rattle.og_frac.specs.Fraction.{whole, sum, difference, quotient}
use Rattle.og_frac.specs.Fitting.{fitting, ratio_of}
use Rattle.og_frac.specs.laws.Integers.{times_add}
use Rattle.og_frac.proofs.LowestTerms.{in_lowest_terms_is}
use Rattle.og_frac.proofs.Rationals.{plain_sum, in_lowest_terms_same, in_lowest_terms_lowest, sum_of_lowest}
use Rattle.og_frac.proofs.Wholes.{whole_lowest}
use Rattle.og_native.specs.Mechanisms.{share}

-- ---- a half

abbrev half : Fraction
half = record { numerator = pos 1; denominator = 2 }

half_lowest : IsInLowestTerms half
unfolding greatest_common_divisor
half_lowest = record { positive = omega arith; reduced = refl }

pub half_fits : fitting (in_lowest_terms half) ≡ Some half
half_fits = ap fitting (in_lowest_terms_lowest half half_lowest)

-- ---- a share is in lowest terms

-- what fits is the fraction itself
fitting_by : (b : Bool) (q s : Fraction) → cond b (Some q) None ≡ Some s → q ≡ s
fitting_by true q s e = cc
fitting_by false q s e = cc

quotient_lowest : (x y : Fraction) → 0 < x.denominator → 0 < unsigned_abs y.numerator
    → IsInLowestTerms (quotient x y)
unfolding quotient
quotient_lowest x y p q = in_lowest_terms_is _ (mul-pos p q)

has_size : (n : ℤ) → int_eq n (pos 0) ≡ false → 0 < unsigned_abs n
has_size (pos zero) e = cc
has_size (pos (suc n)) e = omega arith
has_size (negsuc n) e = omega arith

ratio_lowest : (x y s : Fraction) → 0 < x.denominator → ratio_of x y half ≡ Some s → IsInLowestTerms s
ratio_lowest x y s p e = by (int_eq y.numerator (pos 0)) refl e
  where
    by : (b : Bool) → int_eq y.numerator (pos 0) ≡ b → cond b (Some half) (fitting (quotient x y)) ≡ Some s
        → IsInLowestTerms s
    by true is e =
        let same : half ≡ s = cc in
        subst IsInLowestTerms same half_lowest
    by false isnt e =
        subst IsInLowestTerms (fitting_by _ (quotient x y) s e)
        (quotient_lowest x y p (has_size y.numerator isnt))

share_lowest : (x y s : Fraction) → IsFrac x → share x y ≡ Some s → IsInLowestTerms s
share_lowest x y s p e = by (fitting (sum x y)) e
  where
    by : (o : Option Fraction) → option_and_then (λ both. ratio_of x both half) o ≡ Some s → IsInLowestTerms s
    by None e = cc
    by (Some both) e = ratio_lowest x both s p.lowest.positive e

-- ---- the sum

-- what is left of one, before it is put in lowest terms
abbrev left_of_one : Fraction → Fraction
left_of_one s = record {
  numerator = pos 1 *ℤ pos s.denominator -ℤ s.numerator *ℤ pos 1;
  denominator = 1 * s.denominator;
}

left : (d n : ℤ) → n +ℤ (pos 1 *ℤ d -ℤ n *ℤ pos 1) ≡ d
left d n = omega (arith, ints)

-- a number and what it leaves of one, over the square of the denominator
one_plus : (n : ℤ) (d : ℕ)
    → (n *ℤ pos (1 * d) +ℤ (pos 1 *ℤ pos d -ℤ n *ℤ pos 1) *ℤ pos d) *ℤ pos 1 ≡ pos 1 *ℤ pos (d * (1 * d))
one_plus n d =
    let both : (n +ℤ (pos 1 *ℤ pos d -ℤ n *ℤ pos 1)) *ℤ pos d ≡ pos d *ℤ pos d =
    ap (λ m. m *ℤ pos d) (left (pos d) n) in
    let added = times_add n (pos 1 *ℤ pos d -ℤ n *ℤ pos 1) d in
    omega (arith, ints)

adds_up : (s : Fraction) → IsInLowestTerms s → sum s (difference (whole (pos 1)) s) ≡ whole (pos 1)
unfolding difference
adds_up s p =
    let rest = left_of_one s in
    let some : 0 < 1 * s.denominator = mul-pos (omega arith) p.positive in
    let both : sum (in_lowest_terms s) (in_lowest_terms rest) ≡ in_lowest_terms (plain_sum s rest) =
    sum_of_lowest s rest p.positive some in
    let one : in_lowest_terms (plain_sum s rest) ≡ in_lowest_terms (whole (pos 1)) =
    in_lowest_terms_same (plain_sum s rest) (whole (pos 1)) (mul-pos p.positive some) (omega arith)
    (one_plus s.numerator s.denominator) in
    ap (λ q. sum q (in_lowest_terms rest)) (sym (in_lowest_terms_lowest s p)) ∙ both ∙ one
    ∙ in_lowest_terms_lowest (whole (pos 1)) (whole_lowest (pos 1))

pub shares_add_up : (x y s : Fraction) → IsFrac x → IsFrac y → share x y ≡ Some s
    → sum s (difference (whole (pos 1)) s) ≡ whole (pos 1)
shares_add_up x y s p q e = adds_up s (share_lowest x y s p e)
