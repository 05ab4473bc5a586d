-- Laws of the sums of terms: their order, split weights, and what they are as fractions.
use Rattle.std.proofs.Common.{◌≡◌, ℕ, ◌+◌, ◌*◌, ◌/◌, ◌<◌, ℤ, pos, List, [], ◌∷◌, arith, refl, sym, ap, subst, ◌∙◌}
use Rattle.std.specs.Prelude.{◌+ℤ◌, ◌*ℤ◌, All, IsPermutation, sum_by}
use Rattle.std.specs.Int.{◌∣◌}
use Rattle.std.proofs.Math.IntN.{*ℤ_comm}
use Rattle.std.proofs.Math.Nat.{one-dvd, dvd_antisymm, dvd_trans, div-mul_cancel, mul-pos, mul_assoc, one-mul}
use Rattle.std.proofs.lemmas.Int.{ints}
use Rattle.std.proofs.lemmas.List.Elements.{All-nil, All-cons, All-head, All-tail, All-weaker}
use Rattle.std.proofs.lemmas.List.Sorted.{All-permutation, sum_by-IsPermutation, IsPermutation-sym}
use Rattle.std.proofs.lemmas.List.Sums.{sum_by-cons}
use borrow.Author.Differences.{up, down, same_in}
use Rattle.og_frac.specs.declared.terms.Term.{Term}
use Rattle.og_frac.specs.Fraction.{Fraction, SameNumber, least_common_multiple, in_lowest_terms, sum, product, whole}
use Rattle.og_frac.specs.Terms.{common_denominator, value_over, absolute_over, part_over, size_over, total, IsPositive}
use Rattle.og_frac.proofs.Multiples.{first_divides, second_divides, divides_common, least_common_multiple_positive, least_common_multiple_of_multiple}
use Rattle.og_frac.specs.laws.Integers.{times_times, times_add, times_same}
use Rattle.og_frac.proofs.Rationals.{plain_sum, in_lowest_terms_same, sum_of_lowest, in_lowest_terms-zero}

pub positive : (ts : List Term) → All IsPositive ts → 0 < common_denominator ts
positive [] h = omega arith
positive (t ∷ ts) h = least_common_multiple_positive _ _ (All-head IsPositive t ts h) (positive ts (All-tail IsPositive t ts h))

pub common_multiple : (ts : List Term) → All IsPositive ts → All (λ t. t.pay.denominator ∣ common_denominator ts) ts
common_multiple [] h = All-nil (λ t. t.pay.denominator ∣ 1)
common_multiple (t ∷ ts) h =
    let rest = common_denominator ts in
    let all = least_common_multiple t.pay.denominator rest in
    All-cons (λ x. x.pay.denominator ∣ all) t ts (first_divides t.pay.denominator rest)
    (All-weaker (λ x. x.pay.denominator ∣ rest) (λ x. x.pay.denominator ∣ all) (λ x p. dvd_trans x.pay.denominator p (second_divides t.pay.denominator rest)) ts (common_multiple ts (All-tail IsPositive t ts h)))

pub common_least : (ts : List Term) (m : ℕ) → All IsPositive ts → All (λ t. t.pay.denominator ∣ m) ts → common_denominator ts ∣ m
common_least [] m h k = one-dvd m
common_least (t ∷ ts) m h k =
    let tail = All-tail IsPositive t ts h in
    divides_common t.pay.denominator (common_denominator ts) m (positive ts tail) (All-head (λ x. x.pay.denominator ∣ m) t ts k) (common_least ts m tail (All-tail (λ x. x.pay.denominator ∣ m) t ts k))

pub common_reordered : (ts us : List Term) → All IsPositive ts → IsPermutation ts us → common_denominator ts ≡ common_denominator us
common_reordered ts us h moved =
    let k = All-permutation IsPositive ts us moved h in
    let back = IsPermutation-sym ts us moved in
    let first = common_denominator ts in
    let second = common_denominator us in
    dvd_antisymm
    (common_least ts second h (All-permutation (λ t. t.pay.denominator ∣ second) us ts back (common_multiple us k)))
    (common_least us first k (All-permutation (λ t. t.pay.denominator ∣ first) ts us moved (common_multiple ts h)))

pub common_split : (t u : Term) (ts : List Term) → t.pay ≡ u.pay → IsPositive t → All IsPositive ts → common_denominator (t ∷ u ∷ ts) ≡ common_denominator (u ∷ ts)
common_split t u ts e p h =
    let same : t.pay.denominator ≡ u.pay.denominator = ap (λ x. x.denominator) e in
    let some : 0 < u.pay.denominator = subst (λ n. 0 < n) same p in
    least_common_multiple_of_multiple t.pay.denominator _ (least_common_multiple_positive _ _ some (positive ts h))
    (subst (λ n. n ∣ common_denominator (u ∷ ts)) (sym same) (first_divides u.pay.denominator (common_denominator ts)))

pub absolute_over-sum_by : (common : ℕ) (ts : List Term) → absolute_over common ts ≡ sum_by (size_over common) ts
absolute_over-sum_by common [] = refl
absolute_over-sum_by common (t ∷ ts) = ap (λ n. size_over common t + n) (absolute_over-sum_by common ts) ∙ sym (sum_by-cons (size_over common) t ts)

pub absolute_reordered : (common : ℕ) (ts us : List Term) → IsPermutation ts us → absolute_over common ts ≡ absolute_over common us
absolute_reordered common ts us moved =
    absolute_over-sum_by common ts ∙ sym (sum_by-IsPermutation (size_over common) ts us moved) ∙ sym (absolute_over-sum_by common us)

-- the sum is what stands above 0 without what stands below
value_parts : (common : ℕ) (ts : List Term) → up (value_over common ts) + sum_by (λ t. down (part_over common t)) ts ≡ down (value_over common ts) + sum_by (λ t. up (part_over common t)) ts
value_parts common [] = refl
value_parts common (t ∷ ts) =
    let part = part_over common t in
    let rest = value_over common ts in
    let h = value_parts common ts in
    let above = sum_by-cons (λ x. up (part_over common x)) t ts in
    let below = sum_by-cons (λ x. down (part_over common x)) t ts in
    let whole_sum : (a b : ℤ) (m n x y : ℕ) → up b + n ≡ down b + m → x ≡ up a + m → y ≡ down a + n → up (a +ℤ b) + y ≡ down (a +ℤ b) + x =
    λ a b m n x y p q r. omega (arith, ints) in
    whole_sum part rest _ _ _ _ h above below

pub value_by_parts : (common : ℕ) (ts us : List Term) → sum_by (λ t. up (part_over common t)) us ≡ sum_by (λ t. up (part_over common t)) ts
    → sum_by (λ t. down (part_over common t)) us ≡ sum_by (λ t. down (part_over common t)) ts → value_over common ts ≡ value_over common us
value_by_parts common ts us above below =
    let first = value_parts common ts in
    let second = value_parts common us in
    let joined : (a b : ℤ) (m n x y : ℕ) → up a + n ≡ down a + m → up b + y ≡ down b + x → x ≡ m → y ≡ n → a ≡ b =
    λ a b m n x y p q r s. same_in a b (omega arith) in
    joined (value_over common ts) (value_over common us) _ _ _ _ first second above below

pub value_reordered : (common : ℕ) (ts us : List Term) → IsPermutation ts us → value_over common ts ≡ value_over common us
value_reordered common ts us moved =
    value_by_parts common ts us (sum_by-IsPermutation (λ t. up (part_over common t)) ts us moved)
    (sum_by-IsPermutation (λ t. down (part_over common t)) ts us moved)

part_split : (v w s : ℕ) (n : ℤ) → pos (v + w) *ℤ n *ℤ pos s ≡ pos v *ℤ n *ℤ pos s +ℤ pos w *ℤ n *ℤ pos s
part_split v w s n =
    ap (λ x. x *ℤ pos s) (*ℤ_comm (pos (v + w)) n ∙ spread n ∙ (λ i. *ℤ_comm n (pos v) i +ℤ *ℤ_comm n (pos w) i))
    ∙ times_add (pos v *ℤ n) (pos w *ℤ n) s
  where
    spread : (n : ℤ) → n *ℤ pos (v + w) ≡ n *ℤ pos v +ℤ n *ℤ pos w
    spread n = omega (arith, ints)

pub value_split : (common v w : ℕ) (pay : Fraction) (ts : List Term) → value_over common (record { weight = v + w; pay = pay } ∷ ts) ≡ value_over common (record { weight = v; pay = pay } ∷ record { weight = w; pay = pay } ∷ ts)
value_split common v w pay ts =
    let e = part_split v w (common / pay.denominator) pay.numerator in
    let step : (a b c r : ℤ) → a ≡ b +ℤ c → a +ℤ r ≡ b +ℤ (c +ℤ r) = λ a b c r h. omega (arith, ints) in
    step _ _ _ (value_over common ts) e

-- a term and the rest, over a denominator that they share
total_step : (t : Term) (common : ℕ) (rest : ℤ) → IsPositive t → 0 < common → t.pay.denominator ∣ common
    → in_lowest_terms (record { numerator = part_over common t +ℤ rest; denominator = common }) ≡ sum (product (whole (pos t.weight)) t.pay) (in_lowest_terms (record { numerator = rest; denominator = common }))
unfolding product
total_step t common rest p some h =
    let d = t.pay.denominator in
    let n = pos t.weight *ℤ t.pay.numerator in
    let a : Fraction = record { numerator = n; denominator = 1 * d } in
    let b : Fraction = record { numerator = rest; denominator = common } in
    let share : common / d * d ≡ common = div-mul_cancel d h in
    let one : 0 < 1 * d = omega arith in
    let part : n *ℤ pos (common / d) *ℤ pos (1 * d * common) ≡ n *ℤ pos common *ℤ pos common =
    times_times n (common / d) (1 * d * common) ∙ times_same n (common / d * (1 * d * common)) (common * common)
    (ap (λ x. common / d * (x * common)) (one-mul d) ∙ sym (mul_assoc (common / d) d common) ∙ ap (λ x. x * common) share) ∙ sym (times_times n common common) in
    let other : rest *ℤ pos (1 * d * common) ≡ rest *ℤ pos (1 * d) *ℤ pos common = sym (times_times rest (1 * d) common) in
    let same : SameNumber (record { numerator = part_over common t +ℤ rest; denominator = common }) (plain_sum a b) =
    times_add (part_over common t) rest (1 * d * common) ∙ (λ i. part i +ℤ other i) ∙ sym (times_add (n *ℤ pos common) (rest *ℤ pos (1 * d)) common) in
    in_lowest_terms_same (record { numerator = part_over common t +ℤ rest; denominator = common }) (plain_sum a b) some (mul-pos one some) same
    ∙ sym (sum_of_lowest a b one some)

pub total_over : (common : ℕ) (ts : List Term) → 0 < common → All IsPositive ts → All (λ t. t.pay.denominator ∣ common) ts → in_lowest_terms (record { numerator = value_over common ts; denominator = common }) ≡ total ts
total_over common [] some h k = in_lowest_terms-zero common some
total_over common (t ∷ ts) some h k =
    total_step t common (value_over common ts) (All-head IsPositive t ts h) some (All-head (λ x. x.pay.denominator ∣ common) t ts k)
    ∙ ap (sum (product (whole (pos t.weight)) t.pay)) (total_over common ts some (All-tail IsPositive t ts h) (All-tail (λ x. x.pay.denominator ∣ common) t ts k))
