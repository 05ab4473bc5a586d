-- Laws of integers times natural numbers, by which the laws of the order are proved.
use Rattle.std.proofs.Common.{◌≡◌, ℕ, zero, suc, ◌+◌, ◌*◌, ◌<◌, ℤ, pos, negsuc, arith, refl, sym, ap, ◌∙◌}
use Rattle.std.specs.Prelude.{◌+ℤ◌, ◌*ℤ◌}
use Rattle.std.proofs.Math.IntN.{neg_ℤ}
use Rattle.std.proofs.Math.Nat.{zero-mul, mul_assoc, mul_comm, eq_of_mul-eq-mul_right}
use Rattle.std.proofs.lemmas.Int.{ints}
use borrow.Author.Differences.{up, down, same_in, sum_is_lem}

pub neg_times : (k s : ℕ) → neg_ℤ (pos k) *ℤ pos s ≡ neg_ℤ (pos (k * s))
neg_times zero s = ap pos (zero-mul s) ∙ sym (ap (λ n. neg_ℤ (pos n)) (zero-mul s))
neg_times (suc k) s = refl

-- two factors are one
pub times_times : (n : ℤ) (j k : ℕ) → n *ℤ pos j *ℤ pos k ≡ n *ℤ pos (j * k)
times_times (pos n) j k = ap pos (mul_assoc n j k)
times_times (negsuc n) j k = neg_times (suc n * j) k ∙ ap (λ m. neg_ℤ (pos m)) (mul_assoc (suc n) j k)

pub times_add : (a b : ℤ) (k : ℕ) → (a +ℤ b) *ℤ pos k ≡ a *ℤ pos k +ℤ b *ℤ pos k
times_add a b k = omega (arith, ints, ap (λ n. n * k) (sum_is_lem a b))

pub times_cancel : (a b : ℤ) (k : ℕ) → 0 < k → a *ℤ pos k ≡ b *ℤ pos k → a ≡ b
times_cancel a b k some e =
    let sides : (up a + down b) * k ≡ (up b + down a) * k = omega (arith, ints) in
    same_in a b (eq_of_mul-eq-mul_right k some _ _ sides)

pub times_same : (a : ℤ) (j k : ℕ) → j ≡ k → a *ℤ pos j ≡ a *ℤ pos k
times_same a j k e = ap (λ n. a *ℤ pos n) e

-- factors in either order
pub times_comm : (n : ℤ) (j k : ℕ) → n *ℤ pos j *ℤ pos k ≡ n *ℤ pos k *ℤ pos j
times_comm n j k = times_times n j k ∙ times_same n (j * k) (k * j) (mul_comm j k) ∙ sym (times_times n k j)
