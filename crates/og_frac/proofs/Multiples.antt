-- Laws of the least common multiple.
use Rattle.std.proofs.Common.{◌≡◌, ℕ, ◌*◌, ◌/◌, ◌<◌, ◌≤◌, sym, ap, subst, ◌∙◌}
use Rattle.std.specs.Int.{◌∣◌}
use Rattle.std.proofs.Math.Nat.{dvd_refl, dvd_trans, dvd_antisymm, dvd-mul_right, mul_comm, mul_assoc, mul-pos, mul-div_cancel', dvd_of_mul-dvd-mul_left, mul-dvd-mul_left, le_of_dvd}
use Rattle.og_frac.specs.Fraction.{greatest_common_divisor, least_common_multiple}
use Rattle.og_frac.proofs.Divisors.{quotient_positive, greatest_common_divisor_is, greatest_common_divisor_positive, greatest_common_divisor_left, divides_other}

pub first_divides : (a b : ℕ) → a ∣ least_common_multiple a b
unfolding least_common_multiple
first_divides a b = dvd-mul_right a (b / greatest_common_divisor a b)

pub second_divides : (a b : ℕ) → b ∣ least_common_multiple a b
unfolding least_common_multiple
second_divides a b =
    let g = greatest_common_divisor a b in
    let is = greatest_common_divisor_is a b in
    let first : g * (a / g) ≡ a = mul-div_cancel' g is.0 in
    let second : g * (b / g) ≡ b = mul-div_cancel' g is.1 in
    let same : b * (a / g) ≡ a * (b / g) =
    ap (λ n. n * (a / g)) (sym second) ∙ mul_assoc g (b / g) (a / g) ∙ ap (λ n. g * n) (mul_comm (b / g) (a / g)) ∙ sym (mul_assoc g (a / g) (b / g)) ∙ ap (λ n. n * (b / g)) first in
    subst (λ n. b ∣ n) same (dvd-mul_right b (a / g))

-- each common multiple is a multiple of the least
pub divides_common : (a b m : ℕ) → 0 < b → a ∣ m → b ∣ m → least_common_multiple a b ∣ m
unfolding least_common_multiple
divides_common a b m some p q =
    let g = greatest_common_divisor a b in
    let is = greatest_common_divisor_is a b in
    let positive : 0 < g = greatest_common_divisor_positive a b some in
    let first : g * (a / g) ≡ a = mul-div_cancel' g is.0 in
    let second : g * (b / g) ≡ b = mul-div_cancel' g is.1 in
    let times : a * (m / a) ≡ m = mul-div_cancel' a p in
    let whole : g * (b / g) ∣ g * (m / a * (a / g)) =
    subst (λ n. n ∣ g * (m / a * (a / g))) (sym second)
    (subst (λ n. b ∣ n) (sym times ∙ ap (λ n. n * (m / a)) (sym first) ∙ mul_assoc g (a / g) (m / a) ∙ ap (λ n. g * n) (mul_comm (a / g) (m / a))) q) in
    let left : b / g ∣ m / a = divides_other (a / g) (b / g) (m / a) (greatest_common_divisor_left a b some) (dvd_of_mul-dvd-mul_left (b / g) positive whole) in
    subst (λ n. a * (b / g) ∣ n) times (mul-dvd-mul_left (b / g) a left)

pub least_common_multiple_positive : (a b : ℕ) → 0 < a → 0 < b → 0 < least_common_multiple a b
unfolding least_common_multiple
least_common_multiple_positive a b h k =
    let g = greatest_common_divisor a b in
    let is = greatest_common_divisor_is a b in
    mul-pos h (quotient_positive b g k is.1)

pub least_common_multiple_comm : (a b : ℕ) → 0 < a → 0 < b → least_common_multiple a b ≡ least_common_multiple b a
least_common_multiple_comm a b h k =
    dvd_antisymm
    (divides_common a b _ k (second_divides b a) (first_divides b a))
    (divides_common b a _ h (second_divides a b) (first_divides a b))

pub least_common_multiple_assoc : (a b c : ℕ) → 0 < a → 0 < b → 0 < c → least_common_multiple (least_common_multiple a b) c ≡ least_common_multiple a (least_common_multiple b c)
least_common_multiple_assoc a b c h k l =
    let ab = least_common_multiple a b in
    let bc = least_common_multiple b c in
    let left = least_common_multiple ab c in
    let right = least_common_multiple a bc in
    dvd_antisymm
    (divides_common ab c right l
    (divides_common a b right k (first_divides a bc) (dvd_trans b (first_divides b c) (second_divides a bc)))
    (dvd_trans c (second_divides b c) (second_divides a bc)))
    (divides_common a bc left (least_common_multiple_positive b c k l)
    (dvd_trans a (first_divides a b) (first_divides ab c))
    (divides_common b c left l (dvd_trans b (second_divides a b) (first_divides ab c)) (second_divides ab c)))

-- what is a multiple already stays
pub least_common_multiple_of_multiple : (a b : ℕ) → 0 < b → a ∣ b → least_common_multiple a b ≡ b
least_common_multiple_of_multiple a b h p = dvd_antisymm (divides_common a b b h p (dvd_refl b)) (second_divides a b)

pub multiple_above : (a b : ℕ) → 0 < a → 0 < b → b ≤ least_common_multiple a b
multiple_above a b h k = le_of_dvd (least_common_multiple_positive a b h k) (second_divides a b)
