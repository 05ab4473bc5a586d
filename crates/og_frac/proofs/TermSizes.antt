-- Laws of sums of terms: their sizes, and lists that are picked from, joined and scaled.
use Rattle.std.proofs.Common.{◌≡◌, ℕ, ◌+◌, ◌*◌, ◌/◌, ◌≤◌, ℤ, pos, Bool, true, false, cond, List, [], ◌∷◌, ◌++◌, arith, refl, sym, ap, ◌∙◌}
use Rattle.std.specs.Prelude.{◌+ℤ◌, ◌*ℤ◌, unsigned_abs, filter, map}
use Rattle.std.proofs.Math.IntN.{+ℤ_idl, +ℤ_assoc, *ℤ_comm, *ℤ-zero}
use Rattle.std.proofs.Math.Nat.{mul-add, mul-zero}
use Rattle.std.proofs.lemmas.Int.{ints, unsigned_abs-mul}
use Rattle.og_frac.specs.declared.terms.Term.{Term}
use Rattle.og_frac.specs.Fraction.{least_common_multiple}
use Rattle.og_frac.specs.Terms.{common_denominator, value_over, absolute_over, part_over, size_over, scaled}
use Rattle.og_frac.specs.laws.Integers.{times_times, times_add, times_same}

part_size : (common : ℕ) (t : Term) → unsigned_abs (part_over common t) ≡ size_over common t
part_size common t =
    let share = common / t.pay.denominator in
    unsigned_abs-mul (pos t.weight *ℤ t.pay.numerator) (pos share)
    ∙ ap (λ n. n * share) (unsigned_abs-mul (pos t.weight) t.pay.numerator)

sum_size : (a b : ℤ) (m n : ℕ) → unsigned_abs a ≡ m → unsigned_abs b ≤ n → unsigned_abs (a +ℤ b) ≤ m + n
sum_size a b m n h k = omega (arith, ints)

pub value_size : (common : ℕ) (ts : List Term) → unsigned_abs (value_over common ts) ≤ absolute_over common ts
value_size common [] = omega arith
value_size common (t ∷ ts) =
    sum_size (part_over common t) (value_over common ts) _ _ (part_size common t) (value_size common ts)

picked_step : (b : Bool) (common : ℕ) (t : Term) (ts kept : List Term) → absolute_over common kept ≤ absolute_over common ts
    → absolute_over common (cond b (t ∷ kept) kept) ≤ size_over common t + absolute_over common ts
picked_step true common t ts kept h = omega arith
picked_step false common t ts kept h = omega arith

pub absolute_picked : (keep : Term → Bool) (common : ℕ) (ts : List Term) → absolute_over common (filter keep ts) ≤ absolute_over common ts
absolute_picked keep common [] = omega arith
absolute_picked keep common (t ∷ ts) =
    picked_step (keep t) common t ts (filter keep ts) (absolute_picked keep common ts)

pub value_joined : (common : ℕ) (ts us : List Term) → value_over common (ts ++ us) ≡ value_over common ts +ℤ value_over common us
value_joined common [] us = sym (+ℤ_idl (value_over common us))
value_joined common (t ∷ ts) us =
    ap (λ s. part_over common t +ℤ s) (value_joined common ts us)
    ∙ sym (+ℤ_assoc (part_over common t) (value_over common ts) (value_over common us))

pub absolute_joined : (common : ℕ) (ts us : List Term) → absolute_over common (ts ++ us) ≡ absolute_over common ts + absolute_over common us
absolute_joined common [] us = omega arith
absolute_joined common (t ∷ ts) us = let rest = absolute_joined common ts us in omega arith

times_sum : (k : ℕ) (a b : ℤ) → pos k *ℤ (a +ℤ b) ≡ pos k *ℤ a +ℤ pos k *ℤ b
times_sum k a b =
    *ℤ_comm (pos k) (a +ℤ b) ∙ times_add a b k ∙ (λ i. *ℤ_comm a (pos k) i +ℤ *ℤ_comm b (pos k) i)

part_scaled : (k w s : ℕ) (n : ℤ) → pos (k * w) *ℤ n *ℤ pos s ≡ pos k *ℤ (pos w *ℤ n *ℤ pos s)
part_scaled k w s n =
    ap (λ z. z *ℤ pos s) (*ℤ_comm (pos (k * w)) n) ∙ times_times n (k * w) s
    ∙ times_same n (k * w * s) (w * (s * k)) (omega arith)
    ∙ sym (times_times n w (s * k)) ∙ sym (times_times (n *ℤ pos w) s k)
    ∙ ap (λ z. z *ℤ pos s *ℤ pos k) (*ℤ_comm n (pos w)) ∙ *ℤ_comm (pos w *ℤ n *ℤ pos s) (pos k)

pub value_scaled : (k common : ℕ) (ts : List Term) → value_over common (map (scaled k) ts) ≡ pos k *ℤ value_over common ts
value_scaled k common [] = sym (*ℤ-zero (pos k))
value_scaled k common (t ∷ ts) =
    (λ i. part_scaled k t.weight (common / t.pay.denominator) t.pay.numerator i +ℤ value_scaled k common ts i)
    ∙ sym (times_sum k (part_over common t) (value_over common ts))

size_scaled : (k common : ℕ) (t : Term) → size_over common (scaled k t) ≡ k * size_over common t
size_scaled k common t = omega arith

pub absolute_scaled : (k common : ℕ) (ts : List Term) → absolute_over common (map (scaled k) ts) ≡ k * absolute_over common ts
absolute_scaled k common [] = sym (mul-zero k)
absolute_scaled k common (t ∷ ts) =
    (λ i. size_scaled k common t i + absolute_scaled k common ts i)
    ∙ sym (mul-add k (size_over common t) (absolute_over common ts))

pub common_scaled : (k : ℕ) (ts : List Term) → common_denominator (map (scaled k) ts) ≡ common_denominator ts
common_scaled k [] = refl
common_scaled k (t ∷ ts) = ap (least_common_multiple t.pay.denominator) (common_scaled k ts)
