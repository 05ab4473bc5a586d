-- The span of a range, and how far one whole number is above another.
use Rattle.std.proofs.Common.{◌≡◌, ℕ, ℤ, pos, negsuc, ◌+◌, ◌<◌, ◌≤◌, Bool, true, false, ◌==◌, if◌then◌else◌, nat_lt, ap, sym, ◌∙◌, refl, arith, eqb-true, eq-eqb, ltb-true, ◌&&◌}
use Rattle.std.specs.Prelude.{◌+ℤ◌, ◌≤ℤ◌, ◌<ℤ◌, int_le}
use Rattle.std.specs.Bool.{Decides, one_answer}
use Rattle.std.specs.Int.{int_gap}
use Rattle.std.specs.Ordering.{int_eq}
use Rattle.std.proofs.lemmas.Int.{ints}
use Rattle.std.proofs.lemmas.Bool.Decides.{nat_tests, Decides-int_eq}
use Rattle.std.proofs.lemmas.Bool.{and_parts}
use Rattle.og_frac.specs.Fraction.{Fraction}
use Rattle.og_types.specs.Ty.{is_between}
use Rattle.og_types.specs.Values.{span}

-- the greater number is the lesser and the gap
gap_is : (low n : ℤ) → low ≤ℤ n → n ≡ low +ℤ pos (int_gap low n)
gap_is (pos a) (pos b) h = omega (arith, ints)
gap_is (pos a) (negsuc b) h = absurd (omega (arith, ints))
gap_is (negsuc a) (pos b) h = omega (arith, ints)
gap_is (negsuc a) (negsuc b) h = omega (arith, ints)

pub le_true : (a b : ℤ) → int_le a b ≡ true → a ≤ℤ b
le_true a b e = grind (arith, ints)

pub le_false : (a b : ℤ) → int_le a b ≡ false → (a ≤ℤ b → ⊥)
le_false a b e h = grind (arith, ints)

le_not : (a b : ℤ) → int_le a b ≡ false → b <ℤ a
le_not a b e = grind (arith, ints)

pub true_le : (a b : ℤ) → a ≤ℤ b → int_le a b ≡ true
true_le a b h = grind (arith, ints)

false_le : (a b : ℤ) → (a ≤ℤ b → ⊥) → int_le a b ≡ false
false_le a b h = grind (arith, ints)

not_le : (a b : ℤ) → (a ≤ℤ b → ⊥) → b <ℤ a
not_le a b h = by (int_le a b) refl
  where
    by : (t : Bool) → int_le a b ≡ t → b <ℤ a
    by true e = absurd (h (le_true a b e))
    by false e = le_not a b e

gap_decides : (low n : ℤ) (k : ℕ) → low ≤ℤ n → Decides (int_gap low n == k) (n ≡ low +ℤ pos k)
gap_decides low n k h =
    let is : n ≡ low +ℤ pos (int_gap low n) = gap_is low n h in
    (λ e. is ∙ ap (λ j. low +ℤ pos j) (eqb-true (int_gap low n) k e), λ e. eq-eqb (int_gap low n) k (omega (arith, ints)))

pub eq_gap : (low n : ℤ) (k : ℕ) → low ≤ℤ n → int_eq n (low +ℤ pos k) ≡ (int_gap low n == k)
eq_gap low n k h = one_answer (int_eq n (low +ℤ pos k)) (int_gap low n == k) (Decides-int_eq n (low +ℤ pos k)) (gap_decides low n k h)

pub eq_below : (low n : ℤ) (k : ℕ) → (low ≤ℤ n → ⊥) → int_eq n (low +ℤ pos k) ≡ false
eq_below low n k h = by (int_eq n (low +ℤ pos k)) refl
  where
    by : (b : Bool) → int_eq n (low +ℤ pos k) ≡ b → b ≡ false
    by true e = absurd (h (let is : n ≡ low +ℤ pos k = (Decides-int_eq n (low +ℤ pos k)).0 e in omega (arith, ints)))
    by false e = refl

-- the gap is within the span where the number is at most the other end
pub lt_span : (low high n : ℤ) → low ≤ℤ n → nat_lt (int_gap low n) (span low high) ≡ int_le n high
lt_span low high n h = by (int_le low high) refl
  where
    by : (b : Bool) → int_le low high ≡ b → nat_lt (int_gap low n) (if b then int_gap low high + 1 else 0) ≡ int_le n high
    by true e =
        let first : n ≡ low +ℤ pos (int_gap low n) = gap_is low n h in
        let second : high ≡ low +ℤ pos (int_gap low high) = gap_is low high (le_true low high e) in
        within (int_le n high) refl first second
      where
        within : (b : Bool) → int_le n high ≡ b → n ≡ low +ℤ pos (int_gap low n) → high ≡ low +ℤ pos (int_gap low high) → nat_lt (int_gap low n) (int_gap low high + 1) ≡ b
        within true f first second = let below = le_true n high f in let small : int_gap low n < int_gap low high + 1 = omega (arith, ints) in grind (arith, nat_tests, small)
        within false f first second = let above : high <ℤ n = le_not n high f in let large : int_gap low high + 1 ≤ int_gap low n = omega (arith, ints) in grind (arith, nat_tests, large)
    by false e =
        let above = le_false low high e in
        let outside : int_le n high ≡ false = false_le n high (λ k. above (omega (arith, ints))) in
        let none : nat_lt (int_gap low n) 0 ≡ false = grind (arith, nat_tests) in
        none ∙ sym outside

-- a number of a range is above the lower end by less than the span
pub record BetweenGap (low high : ℤ) (q : Fraction) : Type 0 where
  pub above : low ≤ℤ q.numerator
  pub within : int_gap low q.numerator < span low high

pub between_gap : (low high : ℤ) (q : Fraction) → is_between low high q ≡ true → BetweenGap low high q
between_gap low high q e =
    let bounds = (and_parts (q.denominator == 1) (int_le low q.numerator && int_le q.numerator high) e).1 in
    let both = and_parts (int_le low q.numerator) (int_le q.numerator high) bounds in
    let above : low ≤ℤ q.numerator = le_true low q.numerator both.0 in
    let test : nat_lt (int_gap low q.numerator) (span low high) ≡ true = lt_span low high q.numerator above ∙ both.1 in
    record { above = above; within = ltb-true (int_gap low q.numerator) (span low high) test }

-- a place is within the span where the number there is at most the other end
pub span_within : (low high : ℤ) (r : ℕ) → (low +ℤ pos r) ≤ℤ high → r < span low high
span_within low high r h = by (int_le low high) refl
  where
    by : (b : Bool) → int_le low high ≡ b → r < (if b then int_gap low high + 1 else 0)
    by true e = let is : high ≡ low +ℤ pos (int_gap low high) = gap_is low high (le_true low high e) in omega (arith, ints)
    by false e = absurd (le_false low high e (omega (arith, ints)))

pub span_past : (low high : ℤ) (r : ℕ) → ((low +ℤ pos r) ≤ℤ high → ⊥) → span low high ≤ r
span_past low high r h = by (int_le low high) refl (not_le (low +ℤ pos r) high h)
  where
    by : (b : Bool) → int_le low high ≡ b → high <ℤ (low +ℤ pos r) → (if b then int_gap low high + 1 else 0) ≤ r
    by true e above = let is : high ≡ low +ℤ pos (int_gap low high) = gap_is low high (le_true low high e) in omega (arith, ints)
    by false e above = omega arith

pub within_span : (low high : ℤ) (r : ℕ) → r < span low high → (low +ℤ pos r) ≤ℤ high
within_span low high r h = by (int_le (low +ℤ pos r) high) refl
  where
    by : (b : Bool) → int_le (low +ℤ pos r) high ≡ b → (low +ℤ pos r) ≤ℤ high
    by true e = le_true (low +ℤ pos r) high e
    by false e = absurd (omega (arith, span_past low high r (le_false (low +ℤ pos r) high e)))

pub gap_of : (low : ℤ) (k : ℕ) → int_gap low (low +ℤ pos k) ≡ k
gap_of low k = let is : low +ℤ pos k ≡ low +ℤ pos (int_gap low (low +ℤ pos k)) = gap_is low (low +ℤ pos k) (omega (arith, ints)) in omega (arith, ints)
