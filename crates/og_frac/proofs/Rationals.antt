-- Laws of rational numbers.
use Rattle.std.proofs.Common.{◌≡◌, ℕ, suc, ◌*◌, ◌/◌, ◌<◌, ℤ, pos, negsuc, arith, sym, ap, subst, ◌∙◌}
use Rattle.std.specs.Prelude.{◌+ℤ◌, ◌*ℤ◌, unsigned_abs, int_div}
use Rattle.std.specs.Int.{◌∣◌}
use Rattle.std.proofs.Math.IntN.{neg_ℤ, +ℤ_comm, +ℤ_assoc}
use Rattle.std.proofs.Math.Nat.{zero-mul, mul_assoc, mul_comm, mul-pos, mul-div_cancel', dvd_antisymm, dvd-mul_left}
use Rattle.std.proofs.lemmas.Int.{unsigned_abs-mul}
use Rattle.og_frac.specs.Fraction.{Fraction, in_lowest_terms, IsInLowestTerms, SameNumber, sum, whole}
use Rattle.og_frac.proofs.Divisors.{greatest_common_divisor_is, divides_other}
use Rattle.og_frac.proofs.LowestTerms.{in_lowest_terms_is}
use Rattle.og_frac.proofs.Wholes.{whole_lowest}
use Rattle.og_frac.specs.laws.Integers.{neg_times, times_times, times_add, times_cancel, times_same, times_comm}

SameNumber_trans : (a b c : Fraction) → 0 < b.denominator → SameNumber a b → SameNumber b c → SameNumber a c
SameNumber_trans a b c some p q =
    let x = a.denominator in
    let y = b.denominator in
    let z = c.denominator in
    times_cancel (a.numerator *ℤ pos z) (c.numerator *ℤ pos x) y some
    (times_comm a.numerator z y ∙ ap (λ n. n *ℤ pos z) p ∙ times_comm b.numerator x z ∙ ap (λ n. n *ℤ pos x) q ∙ times_comm c.numerator y x)

shared : (a d g : ℕ) → g ∣ a → g ∣ d → a / g * d ≡ a * (d / g)
shared a d g p q =
    let first : g * (a / g) ≡ a = mul-div_cancel' g p in
    let second : g * (d / g) ≡ d = mul-div_cancel' g q in
    ap (λ n. a / g * n) (sym second) ∙ sym (mul_assoc (a / g) g (d / g)) ∙ ap (λ n. n * (d / g)) (mul_comm (a / g) g ∙ first)

same_divided : (n : ℤ) (d g : ℕ) → g ∣ unsigned_abs n → g ∣ d → int_div n (pos g) *ℤ pos d ≡ n *ℤ pos (d / g)
same_divided (pos n) d g p q = ap pos (shared n d g p q)
same_divided (negsuc n) d g p q = neg_times (suc n / g) d ∙ ap (λ k. neg_ℤ (pos k)) (shared (suc n) d g p q)

-- lowest terms stand for the number
pub SameNumber-in_lowest_terms : (q : Fraction) → SameNumber (in_lowest_terms q) q
unfolding in_lowest_terms
SameNumber-in_lowest_terms q =
    let is = greatest_common_divisor_is (unsigned_abs q.numerator) q.denominator in
    same_divided q.numerator q.denominator _ is.0 is.1

-- a number has one form in lowest terms
pub same_from_SameNumber : (a b : Fraction) → IsInLowestTerms a → IsInLowestTerms b → SameNumber a b → a ≡ b
same_from_SameNumber a b p q e =
    let x = a.denominator in
    let y = b.denominator in
    let m = unsigned_abs a.numerator in
    let n = unsigned_abs b.numerator in
    let sizes : m * y ≡ n * x = sym (unsigned_abs-mul a.numerator (pos y)) ∙ ap unsigned_abs e ∙ unsigned_abs-mul b.numerator (pos x) in
    let first : x ∣ y = divides_other m x y p.reduced (subst (λ k. x ∣ k) (sym sizes ∙ mul_comm m y) (dvd-mul_left x n)) in
    let second : y ∣ x = divides_other n y x q.reduced (subst (λ k. y ∣ k) (sizes ∙ mul_comm n x) (dvd-mul_left y m)) in
    let denominators : x ≡ y = dvd_antisymm first second in
    let numerators : a.numerator ≡ b.numerator = times_cancel a.numerator b.numerator y q.positive (e ∙ times_same b.numerator x y denominators) in
    (λ i. record { numerator = numerators i; denominator = denominators i })

pub in_lowest_terms_same : (a b : Fraction) → 0 < a.denominator → 0 < b.denominator → SameNumber a b → in_lowest_terms a ≡ in_lowest_terms b
in_lowest_terms_same a b p q e =
    let first = in_lowest_terms_is a p in
    let second = in_lowest_terms_is b q in
    same_from_SameNumber _ _ first second
    (SameNumber_trans (in_lowest_terms a) a (in_lowest_terms b) p (SameNumber-in_lowest_terms a)
    (SameNumber_trans a b (in_lowest_terms b) q e (sym (SameNumber-in_lowest_terms b))))

pub in_lowest_terms_lowest : (a : Fraction) → IsInLowestTerms a → in_lowest_terms a ≡ a
in_lowest_terms_lowest a p =
    same_from_SameNumber _ a (in_lowest_terms_is a p.positive) p (SameNumber-in_lowest_terms a)

-- the sum before it is put in lowest terms
abbrev pub plain_sum : Fraction → Fraction → Fraction
plain_sum a b = record {
  numerator = a.numerator *ℤ pos b.denominator +ℤ b.numerator *ℤ pos a.denominator;
  denominator = a.denominator * b.denominator;
}

plain_sum_comm : (a b : Fraction) → plain_sum a b ≡ plain_sum b a
plain_sum_comm a b =
    (λ i. record { numerator = +ℤ_comm (a.numerator *ℤ pos b.denominator) (b.numerator *ℤ pos a.denominator) i; denominator = mul_comm a.denominator b.denominator i })

plain_sum_assoc : (a b c : Fraction) → plain_sum (plain_sum a b) c ≡ plain_sum a (plain_sum b c)
plain_sum_assoc a b c =
    let x = a.denominator in
    let y = b.denominator in
    let z = c.denominator in
    let k = a.numerator in
    let m = b.numerator in
    let n = c.numerator in
    let left : (k *ℤ pos y +ℤ m *ℤ pos x) *ℤ pos z ≡ k *ℤ pos (y * z) +ℤ m *ℤ pos (x * z) =
    times_add (k *ℤ pos y) (m *ℤ pos x) z ∙ (λ i. times_times k y z i +ℤ times_times m x z i) in
    let right : (m *ℤ pos z +ℤ n *ℤ pos y) *ℤ pos x ≡ m *ℤ pos (x * z) +ℤ n *ℤ pos (x * y) =
    times_add (m *ℤ pos z) (n *ℤ pos y) x
    ∙ (λ i. (times_times m z x ∙ times_same m (z * x) (x * z) (mul_comm z x)) i +ℤ (times_times n y x ∙ times_same n (y * x) (x * y) (mul_comm y x)) i) in
    let numerators : (k *ℤ pos y +ℤ m *ℤ pos x) *ℤ pos z +ℤ n *ℤ pos (x * y) ≡ k *ℤ pos (y * z) +ℤ (m *ℤ pos z +ℤ n *ℤ pos y) *ℤ pos x =
    ap (λ s. s +ℤ n *ℤ pos (x * y)) left ∙ +ℤ_assoc (k *ℤ pos (y * z)) (m *ℤ pos (x * z)) (n *ℤ pos (x * y)) ∙ ap (λ s. k *ℤ pos (y * z) +ℤ s) (sym right) in
    (λ i. record { numerator = numerators i; denominator = mul_assoc x y z i })

-- a sum depends only on the numbers
plain_sum_same : (a b c : Fraction) → SameNumber a b → SameNumber (plain_sum a c) (plain_sum b c)
plain_sum_same a b c e =
    let x = a.denominator in
    let y = b.denominator in
    let z = c.denominator in
    let k = a.numerator in
    let m = b.numerator in
    let n = c.numerator in
    let first : k *ℤ pos z *ℤ pos (y * z) ≡ m *ℤ pos z *ℤ pos (x * z) =
    times_times k z (y * z) ∙ times_same k (z * (y * z)) (y * (z * z)) (omega arith) ∙ sym (times_times k y (z * z)) ∙ ap (λ s. s *ℤ pos (z * z)) e
    ∙ times_times m x (z * z) ∙ times_same m (x * (z * z)) (z * (x * z)) (omega arith) ∙ sym (times_times m z (x * z)) in
    let second : n *ℤ pos x *ℤ pos (y * z) ≡ n *ℤ pos y *ℤ pos (x * z) =
    times_times n x (y * z) ∙ times_same n (x * (y * z)) (y * (x * z)) (omega arith) ∙ sym (times_times n y (x * z)) in
    times_add (k *ℤ pos z) (n *ℤ pos x) (y * z) ∙ (λ i. first i +ℤ second i) ∙ sym (times_add (m *ℤ pos z) (n *ℤ pos y) (x * z))

pub sum_comm : (a b : Fraction) → sum a b ≡ sum b a
unfolding sum
sum_comm a b = ap in_lowest_terms (plain_sum_comm a b)

-- a part may be put in lowest terms first
sum-in_lowest_terms : (a c : Fraction) → 0 < a.denominator → 0 < c.denominator → sum (in_lowest_terms a) c ≡ in_lowest_terms (plain_sum a c)
unfolding sum
sum-in_lowest_terms a c p q =
    in_lowest_terms_same (plain_sum (in_lowest_terms a) c) (plain_sum a c) (mul-pos (in_lowest_terms_is a p).positive q) (mul-pos p q) (plain_sum_same (in_lowest_terms a) a c (SameNumber-in_lowest_terms a))

pub sum_assoc : (a b c : Fraction) → 0 < a.denominator → 0 < b.denominator → 0 < c.denominator → sum (sum a b) c ≡ sum a (sum b c)
unfolding sum
sum_assoc a b c p q r =
    sum-in_lowest_terms (plain_sum a b) c (mul-pos p q) r ∙ ap in_lowest_terms (plain_sum_assoc a b c ∙ plain_sum_comm a (plain_sum b c))
    ∙ sym (sum-in_lowest_terms (plain_sum b c) a (mul-pos q r) p) ∙ sum_comm (sum b c) a

-- both parts may be put in lowest terms first
pub sum_of_lowest : (a b : Fraction) → 0 < a.denominator → 0 < b.denominator → sum (in_lowest_terms a) (in_lowest_terms b) ≡ in_lowest_terms (plain_sum a b)
unfolding sum
sum_of_lowest a b p q =
    sum-in_lowest_terms a (in_lowest_terms b) p (in_lowest_terms_is b q).positive ∙ ap in_lowest_terms (plain_sum_comm a (in_lowest_terms b))
    ∙ sum-in_lowest_terms b a q p ∙ ap in_lowest_terms (plain_sum_comm b a)

-- 0 over any denominator
pub in_lowest_terms-zero : (d : ℕ) → 0 < d → in_lowest_terms (record { numerator = pos 0; denominator = d }) ≡ whole (pos 0)
in_lowest_terms-zero d h =
    in_lowest_terms_same (record { numerator = pos 0; denominator = d }) (whole (pos 0)) h (omega arith) (ap pos (zero-mul 1 ∙ sym (zero-mul d)))
    ∙ in_lowest_terms_lowest (whole (pos 0)) (whole_lowest (pos 0))
