-- Laws of lowest terms.
use Rattle.std.proofs.Common.{◌≡◌, ℕ, ◌/◌, ◌<◌, ◌^◌, ℤ, pos, negsuc, arith, refl, sym, ap, subst, ◌∙◌}
use Rattle.std.specs.Prelude.{◌*ℤ◌, unsigned_abs, int_div}
use Rattle.std.specs.Int.{int_div_euclid}
use Rattle.std.proofs.lemmas.Int.{ints, unsigned_abs-mul}
use Rattle.std.proofs.lemmas.Nat.{mul-lt}
use Rattle.std.proofs.Math.Nat.{one-mul}
use Rattle.og_frac.specs.Fraction.{Fraction, greatest_common_divisor, in_lowest_terms, IsInLowestTerms, sign, floor_div}
use Rattle.og_frac.proofs.Divisors.{quotient_positive, greatest_common_divisor_is, greatest_common_divisor_left}

sign-div : (n : ℤ) (g : ℕ) → sign n *ℤ pos (unsigned_abs n / g) ≡ int_div n (pos g)
sign-div (pos n) g = ap pos (one-mul (n / g))
sign-div (negsuc n) g = omega (arith, ints)

unsigned_abs-div : (n : ℤ) (g : ℕ) → unsigned_abs (int_div n (pos g)) ≡ unsigned_abs n / g
unsigned_abs-div (pos n) g = refl
unsigned_abs-div (negsuc n) g = omega (arith, ints)

pub in_lowest_terms_is : (q : Fraction) → 0 < q.denominator → IsInLowestTerms (in_lowest_terms q)
unfolding in_lowest_terms
in_lowest_terms_is q h =
    let a = unsigned_abs q.numerator in
    let g = greatest_common_divisor a q.denominator in
    let is = greatest_common_divisor_is a q.denominator in
    record {
      positive = quotient_positive q.denominator g h is.1;
      reduced = ap (λ n. greatest_common_divisor n (q.denominator / g)) (unsigned_abs-div q.numerator g) ∙ greatest_common_divisor_left a q.denominator h;
    }

-- what a size, a common divisor and a sign give
pub lowest_from_parts : (n read signed m : ℤ) (d s g : ℕ) → read ≡ n → s ≡ unsigned_abs read → g ≡ greatest_common_divisor s d → signed ≡ sign read *ℤ pos (s / g) → m ≡ signed
    → record { numerator = m; denominator = d / g } ≡ in_lowest_terms (record { numerator = n; denominator = d })
unfolding in_lowest_terms
lowest_from_parts n read signed m d s g er es eg ed em =
    let size : s ≡ unsigned_abs n = es ∙ ap unsigned_abs er in
    let same : g ≡ greatest_common_divisor (unsigned_abs n) d = eg ∙ ap (λ x. greatest_common_divisor x d) size in
    let first : m ≡ int_div n (pos (greatest_common_divisor (unsigned_abs n) d)) =
    em ∙ ed ∙ (λ i. sign (er i) *ℤ pos (size i / same i)) ∙ sign-div n _ in
    (λ i. record { numerator = first i; denominator = d / same i })

-- the product of two numbers of 63 bits has 126
pub unsigned_abs_times : (a b : ℤ) → unsigned_abs a < 2 ^ 63 → unsigned_abs b < 2 ^ 63 → unsigned_abs (a *ℤ b) < 2 ^ 126
unsigned_abs_times a b h k = subst (λ n. n < 2 ^ 126) (sym (unsigned_abs-mul a b)) (mul-lt (unsigned_abs a) (unsigned_abs b) (2 ^ 63) (2 ^ 63) h k)

pub int_div_euclid-pos : (n : ℤ) (m : ℤ) (d : ℕ) → m ≡ pos d → int_div_euclid n m ≡ floor_div n d
int_div_euclid-pos (pos n) m d e = ap (int_div_euclid (pos n)) e
int_div_euclid-pos (negsuc n) m d e = ap (int_div_euclid (negsuc n)) e

pub ruleset euclidean = int_div_euclid-pos
