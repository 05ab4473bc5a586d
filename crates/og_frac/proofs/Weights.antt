-- Laws of lists of terms in which each payment has the same weight, added up over its terms.
use Rattle.std.proofs.Common.{◌≡◌, ℕ, ◌*◌, ◌/◌, ◌<◌, ℤ, pos, Bool, true, false, cond, List, [], ◌∷◌, arith, refl, sym, ap, ◌∙◌}
use Rattle.std.specs.Prelude.{◌*ℤ◌, unsigned_abs, All, sum_by}
use Rattle.std.specs.Int.{◌∣◌}
use Rattle.std.proofs.Math.Nat.{dvd_antisymm, mul_assoc, mul-zero}
use Rattle.std.proofs.lemmas.List.Elements.{All-nil, All-cons, All-head, All-tail}
use Rattle.std.proofs.lemmas.List.Sums.{sum_by-cons}
use borrow.Author.Differences.{up, down, product_is}
use Rattle.og_frac.specs.declared.terms.Term.{Term}
use Rattle.og_frac.specs.Fraction.{Fraction, divides}
use Rattle.og_frac.specs.Terms.{common_denominator, value_over, absolute_over, part_over, IsPositive, HasWeight, SameWeights}
use Rattle.og_frac.proofs.Divisors.{divides_in, divides_out}
use Rattle.og_frac.proofs.TermSums.{common_multiple, common_least, absolute_over-sum_by, value_by_parts}

part_up : (w s : ℕ) (n : ℤ) → up (pos w *ℤ n *ℤ pos s) ≡ w * (up n * s)
part_up w s n =
    let first = product_is (pos w) n in
    let second = product_is (pos w *ℤ n) (pos s) in
    let times = ap (λ x. x * s) first.0 in
    omega (arith, second.0)

part_down : (w s : ℕ) (n : ℤ) → down (pos w *ℤ n *ℤ pos s) ≡ w * (down n * s)
part_down w s n =
    let first = product_is (pos w) n in
    let second = product_is (pos w *ℤ n) (pos s) in
    let times = ap (λ x. x * s) first.1 in
    omega (arith, second.1)

-- what a payment adds above 0 and below 0, and its size, each time that it counts
abbrev above : ℕ → Fraction → ℕ
above common q = up q.numerator * (common / q.denominator)

abbrev below : ℕ → Fraction → ℕ
below common q = down q.numerator * (common / q.denominator)

abbrev size : ℕ → Fraction → ℕ
size common q = unsigned_abs q.numerator * (common / q.denominator)

parts_above : (common : ℕ) (ts : List Term) → sum_by (λ t. up (part_over common t)) ts ≡ sum_by (λ t. t.weight * above common t.pay) ts
parts_above common ts = (λ i. sum_by (λ t. part_up t.weight (common / t.pay.denominator) t.pay.numerator i) ts)

parts_below : (common : ℕ) (ts : List Term) → sum_by (λ t. down (part_over common t)) ts ≡ sum_by (λ t. t.weight * below common t.pay) ts
parts_below common ts = (λ i. sum_by (λ t. part_down t.weight (common / t.pay.denominator) t.pay.numerator i) ts)

sizes_weighed : (common : ℕ) (ts : List Term) → absolute_over common ts ≡ sum_by (λ t. t.weight * size common t.pay) ts
sizes_weighed common ts =
    absolute_over-sum_by common ts
    ∙ (λ i. sum_by (λ t. mul_assoc t.weight (unsigned_abs t.pay.numerator) (common / t.pay.denominator) i) ts)

pub value_same : (common : ℕ) (ts us : List Term) → SameWeights ts us → value_over common ts ≡ value_over common us
value_same common ts us h =
    value_by_parts common ts us
    (parts_above common us ∙ sym (h (above common)) ∙ sym (parts_above common ts))
    (parts_below common us ∙ sym (h (below common)) ∙ sym (parts_below common ts))

pub absolute_same : (common : ℕ) (ts us : List Term) → SameWeights ts us → absolute_over common ts ≡ absolute_over common us
absolute_same common ts us h = sizes_weighed common ts ∙ h (size common) ∙ sym (sizes_weighed common us)

-- 1 for a payment whose denominator doesn't divide the number
abbrev misses : ℕ → Fraction → ℕ
misses m q = cond (divides q.denominator m) 0 1

abbrev missed : ℕ → List Term → ℕ
missed m ts = sum_by (λ t. t.weight * misses m t.pay) ts

none_missed : (m : ℕ) (ts : List Term) → All (λ t. t.pay.denominator ∣ m) ts → missed m ts ≡ 0
none_missed m [] h = refl
none_missed m (t ∷ ts) h =
    let divided = divides_in t.pay.denominator m (All-head (λ x. x.pay.denominator ∣ m) t ts h) in
    let first : t.weight * misses m t.pay ≡ 0 = ap (λ b. t.weight * cond b 0 1) divided ∙ mul-zero t.weight in
    let rest = none_missed m ts (All-tail (λ x. x.pay.denominator ∣ m) t ts h) in
    let split = sum_by-cons (λ x. x.weight * misses m x.pay) t ts in
    omega arith

not_missed : (w m : ℕ) (q : Fraction) → 0 < w → w * misses m q ≡ 0 → q.denominator ∣ m
not_missed w m q some none = by (divides q.denominator m) refl none
  where
    by : (b : Bool) → divides q.denominator m ≡ b → w * cond b 0 1 ≡ 0 → q.denominator ∣ m
    by true e h = divides_out q.denominator m e
    by false e h = absurd (omega arith)

all_divide : (m : ℕ) (ts : List Term) → All HasWeight ts → missed m ts ≡ 0 → All (λ t. t.pay.denominator ∣ m) ts
all_divide m [] some none = All-nil (λ t. t.pay.denominator ∣ m)
all_divide m (t ∷ ts) some none =
    let split = sum_by-cons (λ x. x.weight * misses m x.pay) t ts in
    let first : t.weight * misses m t.pay ≡ 0 = omega arith in
    let rest : missed m ts ≡ 0 = omega arith in
    All-cons (λ x. x.pay.denominator ∣ m) t ts (not_missed t.weight m t.pay (All-head HasWeight t ts some) first)
    (all_divide m ts (All-tail HasWeight t ts some) rest)

-- a multiple of the denominators of one list is one of the other's
multiple_same : (m : ℕ) (ts us : List Term) → All HasWeight us → missed m ts ≡ missed m us → All (λ t. t.pay.denominator ∣ m) ts → All (λ t. t.pay.denominator ∣ m) us
multiple_same m ts us some same h = all_divide m us some (sym same ∙ none_missed m ts h)

pub common_same : (ts us : List Term) → All IsPositive ts → All IsPositive us → All HasWeight ts → All HasWeight us → SameWeights ts us → common_denominator ts ≡ common_denominator us
common_same ts us h k v w same =
    let first = common_denominator ts in
    let second = common_denominator us in
    dvd_antisymm
    (common_least ts second h (multiple_same second us ts v (sym (same (misses second))) (common_multiple us k)))
    (common_least us first k (multiple_same first ts us w (same (misses first)) (common_multiple ts h)))
