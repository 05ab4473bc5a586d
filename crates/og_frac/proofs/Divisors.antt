-- Laws of the greatest common divisor.
use Rattle.std.proofs.Common.{◌≡◌, ℕ, zero, suc, ◌+◌, ◌*◌, ◌/◌, ◌%◌, ◌<◌, ◌≤◌, Bool, true, false, cond, ◌⊎◌, inl, inr, arith, refl, sym, ap, subst, ◌∙◌}
use Rattle.std.specs.Prelude.{◌==◌, ◌&&◌}
use Rattle.std.specs.Int.{IsGcd, ◌∣◌}
use Rattle.std.proofs.Math.Nat.{dvd_refl, le_of_dvd, dvd_of_mod-eq-zero, mod-eq-zero_of_dvd, mod-lt, mod-zero, mul_comm, mul-zero, zero-mul, div-add-mod, mul-add, mul-lt-mul_of_pos_left, dvd-mul_left, eq-zero_of_zero-dvd, mul_left_comm, mul-one, eq_of_mul-eq-mul_left, mul-div_cancel', eq-zero-or-pos}
use Rattle.std.proofs.lemmas.Bool.{and_from, and_parts}
use Rattle.std.proofs.lemmas.Bool.Decides.{nat_tests}
use Rattle.std.proofs.lemmas.Nat.Gcd.{IsGcd-from_zero, IsGcd-from_mod, same_from_IsGcd}
use Rattle.std.proofs.lemmas.Nat.{mod-mul-add}
use Rattle.og_frac.specs.Fraction.{divides, greatest_up_to, greatest_common_divisor}

-- a factor of both numbers goes through a remainder
mul-mod-mul : (k a b : ℕ) → 0 < b → (k * a) % (k * b) ≡ k * (a % b)
mul-mod-mul zero a b some = ap (λ n. n % (zero * b)) (zero-mul a) ∙ ap (λ n. zero % n) (zero-mul b) ∙ mod-zero zero ∙ sym (zero-mul (a % b))
mul-mod-mul (suc k) a b some =
    let split = div-add-mod a b in
    let small = mod-lt a some in
    let less : suc k * (a % b) < suc k * b = mul-lt-mul_of_pos_left small (omega arith) in
    let parts : suc k * a ≡ (a / b) * (suc k * b) + suc k * (a % b) =
    ap (λ n. suc k * n) (sym split) ∙ mul-add (suc k) (b * (a / b)) (a % b)
    ∙ ap (λ n. n + suc k * (a % b)) (ap (λ n. suc k * n) (mul_comm b (a / b)) ∙ mul_left_comm (suc k) (a / b) b) in
    ap (λ n. n % (suc k * b)) parts ∙ mod-mul-add (a / b) (suc k * b) (suc k * (a % b)) less

-- a greatest common divisor, with what it is of the numbers' multiples
pub record Found (a b : ℕ) : Type 0 where
  pub number : ℕ
  pub is : IsGcd a b number
  pub times : (k : ℕ) → IsGcd (k * a) (k * b) (k * number)

by_steps : (fuel a b : ℕ) → b < fuel → Found a b
by_steps zero a b h = absurd (omega arith)
by_steps (suc fuel) a zero h = record {
  number = a;
  is = IsGcd-from_zero a zero refl;
  times = λ k. IsGcd-from_zero (k * a) (k * zero) (mul-zero k);
}
by_steps (suc fuel) a (suc b) h =
    let some : 0 < suc b = omega arith in
    let small : a % suc b < suc b = mod-lt a some in
    let rest = by_steps fuel (suc b) (a % suc b) (omega arith) in
    record {
      number = rest.number;
      is = IsGcd-from_mod a (suc b) rest.number rest.is;
      times = λ k. IsGcd-from_mod (k * a) (k * suc b) (k * rest.number) (subst (λ n. IsGcd (k * suc b) n (k * rest.number)) (sym (mul-mod-mul k a (suc b) some)) (rest.times k));
    }

pub found : (a b : ℕ) → Found a b
found a b = by_steps (suc b) a b (omega arith)

pub divides_in : (d n : ℕ) → d ∣ n → divides d n ≡ true
divides_in d n h = let e = mod-eq-zero_of_dvd d h in grind (arith, nat_tests)

pub divides_out : (d n : ℕ) → divides d n ≡ true → d ∣ n
divides_out d n h = let e : n % d ≡ zero = grind (arith, nat_tests) in dvd_of_mod-eq-zero d e

below_next : (k n : ℕ) (p : ℕ → Bool) → k ≤ suc n → p k ≡ true → p (suc n) ≡ false → k ≤ n
below_next k n p h e t = by (k == suc n) refl
  where
    by : (s : Bool) → (k == suc n) ≡ s → k ≤ n
    by true same =
        let is : k ≡ suc n = grind (arith, nat_tests) in
        let f = ap p is in
        absurd (cc)
    by false other = grind (arith, nat_tests)

greatest_step : (n k : ℕ) (p : ℕ → Bool) (b : Bool) → p (suc n) ≡ b → k ≤ suc n → p k ≡ true → (k ≤ n → k ≤ greatest_up_to n p) → k ≤ cond b (suc n) (greatest_up_to n p)
greatest_step n k p true t h e rest = h
greatest_step n k p false t h e rest = rest (below_next k n p h e t)

-- what passes is at most the greatest that passes
greatest_above : (n : ℕ) (p : ℕ → Bool) (k : ℕ) → k ≤ n → p k ≡ true → k ≤ greatest_up_to n p
greatest_above zero p k h e = h
greatest_above (suc n) p k h e = greatest_step n k p (p (suc n)) refl h e (λ le. greatest_above n p k le e)

passes_step : (n : ℕ) (p : ℕ → Bool) (b : Bool) → p (suc n) ≡ b → (0 < greatest_up_to n p → p (greatest_up_to n p) ≡ true) → 0 < cond b (suc n) (greatest_up_to n p) → p (cond b (suc n) (greatest_up_to n p)) ≡ true
passes_step n p true t rest some = t
passes_step n p false t rest some = rest some

greatest_passes : (n : ℕ) (p : ℕ → Bool) → 0 < greatest_up_to n p → p (greatest_up_to n p) ≡ true
greatest_passes zero p h = absurd (omega arith)
greatest_passes (suc n) p h = passes_step n p (p (suc n)) refl (greatest_passes n p) h

divisor_small : (a b g : ℕ) → g ∣ a → g ∣ b → 0 < a + b → g ≤ a + b
divisor_small zero b g p q some = let le = le_of_dvd (omega arith) q in omega arith
divisor_small (suc a) b g p q some = let le = le_of_dvd {n = suc a} (omega arith) p in omega arith

divisor_positive : (a b g : ℕ) → g ∣ a → g ∣ b → 0 < a + b → 0 < g
divisor_positive a b zero p q some = let e = eq-zero_of_zero-dvd p in let f = eq-zero_of_zero-dvd q in absurd (omega arith)
divisor_positive a b (suc g) p q some = omega arith

common : (a b : ℕ) → (a + b ≡ 0) ⊎ (0 < a + b) → IsGcd a b (greatest_up_to (a + b) (λ d. divides d a && divides d b))
common a b (inl none) =
    let first : a ≡ 0 = omega arith in
    let second : b ≡ 0 = omega arith in
    rw none (rw second (rw first (dvd_refl 0, dvd_refl 0, λ d p q. p)))
common a b (inr some) =
    let f = found a b in
    let g = f.number in
    let test : ℕ → Bool = λ d. divides d a && divides d b in
    let chosen = greatest_up_to (a + b) test in
    let above : g ≤ chosen = greatest_above (a + b) test g (divisor_small a b g f.is.0 f.is.1 some) (and_from _ _ (divides_in g a f.is.0) (divides_in g b f.is.1)) in
    let positive = divisor_positive a b g f.is.0 f.is.1 some in
    let passed = and_parts _ _ (greatest_passes (a + b) test (omega arith)) in
    let divided : chosen ∣ g = f.is.2 chosen (divides_out chosen a passed.0) (divides_out chosen b passed.1) in
    let below = le_of_dvd positive divided in
    let same : g ≡ chosen = omega arith in
    subst (λ n. IsGcd a b n) same f.is

-- what is left of a number without a divisor
pub quotient_positive : (n g : ℕ) → 0 < n → g ∣ n → 0 < n / g
quotient_positive n g some h = by (n / g) (mul-div_cancel' g h)
  where
    by : (k : ℕ) → g * k ≡ n → 0 < k
    by zero e = absurd (omega (arith, mul-zero g))
    by (suc k) e = omega arith

pub greatest_common_divisor_is : (a b : ℕ) → IsGcd a b (greatest_common_divisor a b)
unfolding greatest_common_divisor
greatest_common_divisor_is a b = common a b (eq-zero-or-pos (a + b))

-- what is a greatest common divisor is the one
pub greatest_common_divisor_from : (a b g : ℕ) → IsGcd a b g → greatest_common_divisor a b ≡ g
greatest_common_divisor_from a b g h = same_from_IsGcd a b _ _ (greatest_common_divisor_is a b) h

pub greatest_common_divisor-zero : (a : ℕ) → greatest_common_divisor a 0 ≡ a
greatest_common_divisor-zero a = greatest_common_divisor_from a 0 a (IsGcd-from_zero a 0 refl)

-- a step of Euclid's algorithm
pub greatest_common_divisor_step : (a b : ℕ) → greatest_common_divisor b (a % b) ≡ greatest_common_divisor a b
greatest_common_divisor_step a b = sym (greatest_common_divisor_from a b _ (IsGcd-from_mod a b _ (greatest_common_divisor_is b (a % b))))

greatest_common_divisor_multiples : (k a b : ℕ) → greatest_common_divisor (k * a) (k * b) ≡ k * greatest_common_divisor a b
greatest_common_divisor_multiples k a b =
    let f = found a b in
    greatest_common_divisor_from (k * a) (k * b) (k * f.number) (f.times k)
    ∙ ap (λ n. k * n) (sym (greatest_common_divisor_from a b f.number f.is))

pub greatest_common_divisor_positive : (a b : ℕ) → 0 < b → 0 < greatest_common_divisor a b
greatest_common_divisor_positive a b h = let is = greatest_common_divisor_is a b in divisor_positive a b _ is.0 is.1 (omega arith)

-- what is left of two numbers without their common divisor has none
pub greatest_common_divisor_left : (a b : ℕ) → 0 < b → greatest_common_divisor (a / greatest_common_divisor a b) (b / greatest_common_divisor a b) ≡ 1
greatest_common_divisor_left a b h =
    let g = greatest_common_divisor a b in
    let is = greatest_common_divisor_is a b in
    let some : 0 < g = greatest_common_divisor_positive a b h in
    let first : g * (a / g) ≡ a = mul-div_cancel' g is.0 in
    let second : g * (b / g) ≡ b = mul-div_cancel' g is.1 in
    let times = greatest_common_divisor_multiples g (a / g) (b / g) in
    let whole : greatest_common_divisor (g * (a / g)) (g * (b / g)) ≡ g = (λ i. greatest_common_divisor (first i) (second i)) in
    eq_of_mul-eq-mul_left g some _ _ (sym times ∙ whole ∙ sym (mul-one g))

-- a number that divides a product and has nothing in common with one factor divides the other
pub divides_other : (a b c : ℕ) → greatest_common_divisor a b ≡ 1 → b ∣ c * a → b ∣ c
divides_other a b c apart h =
    let times = greatest_common_divisor_is (c * a) (c * b) in
    let is : greatest_common_divisor (c * a) (c * b) ≡ c = greatest_common_divisor_multiples c a b ∙ ap (λ n. c * n) apart ∙ mul-one c in
    subst (λ n. b ∣ n) is (times.2 b h (dvd-mul_left b c))

pub ruleset euclid = (greatest_common_divisor-zero, greatest_common_divisor_step)
