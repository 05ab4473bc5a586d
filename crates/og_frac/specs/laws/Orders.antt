-- Laws of the order of fractions, and that the total order is one: what the impls of Ord and
-- PartialOrd cite.
use Rattle.std.proofs.Common.{◌≡◌, ℕ, ◌+◌, ◌*◌, ◌<◌, ℤ, pos, Bool, true, false, cond, arith, refl, sym, ap, ◌∙◌, max}
use Rattle.std.specs.Prelude.{◌*ℤ◌, ◌<ℤ◌, ◌↔◌, ◌==◌, ◌&&◌, nat_lt}
use Rattle.std.specs.Int.RustNames.{int_lt}
use Rattle.std.specs.Ordering.{int_cmp, nat_cmp, ordering_reverse, ordering_then, on, is_eq, int_eq}
use Rattle.std.specs.declared.cmp.Ordering.{Ordering}
use Rattle.std.proofs.lemmas.Bool.Decides.{nat_tests}
use Rattle.std.specs.Cmp.{IsTotalOrder}
use Rattle.std.proofs.lemmas.Cmp.{nat_cmp_total, int_cmp_total, on_total, then_total, tied_itself}
use Rattle.std.specs.declared.cmp.Ordering.TheVariants.{Less, Equal, Greater}
use Rattle.std.proofs.Math.Nat.{mul-lt-mul_of_pos_right, lt_of_mul-lt-mul_right}
use Rattle.std.proofs.lemmas.Int.{ints}
use borrow.Author.Differences.{up, down, below_in, lt_out}
use Rattle.og_frac.specs.Fraction.{Fraction, SameNumber, order, over_positive, total_order}
use Rattle.og_frac.specs.laws.Integers.{times_comm}

pub int_cmp_equal : (x y : ℤ) → (int_cmp x y ≡ Equal) ↔ (x ≡ y)
int_cmp_equal x y = by (int_lt x y) (int_lt y x) refl refl
  where
    by : (s t : Bool) → int_lt x y ≡ s → int_lt y x ≡ t → (cond s Less (cond t Greater Equal) ≡ Equal) ↔ (x ≡ y)
    by true t e f = (λ h. absurd (cc), λ h. absurd (omega (arith, ints)))
    by false true e f = (λ h. absurd (cc), λ h. absurd (omega (arith, ints)))
    by false false e f = (λ h. omega (arith, ints), λ h. refl)

pub int_cmp_less : (x y : ℤ) → (int_cmp x y ≡ Less) ↔ (x <ℤ y)
int_cmp_less x y = by (int_lt x y) (int_lt y x) refl refl
  where
    by : (s t : Bool) → int_lt x y ≡ s → int_lt y x ≡ t → (cond s Less (cond t Greater Equal) ≡ Less) ↔ (x <ℤ y)
    by true t e f = (λ h. omega (arith, ints), λ h. refl)
    by false true e f = (λ h. absurd (cc), λ h. absurd (omega (arith, ints)))
    by false false e f = (λ h. absurd (cc), λ h. absurd (omega (arith, ints)))

times_less : (a b : ℤ) (k : ℕ) → 0 < k → a <ℤ b → (a *ℤ pos k) <ℤ (b *ℤ pos k)
times_less a b k some h =
    let sides : up a + down b < up b + down a = lt_out a b h in
    let times : (up a + down b) * k < (up b + down a) * k = mul-lt-mul_of_pos_right sides some in
    omega (arith, ints)

less_times : (a b : ℤ) (k : ℕ) → (a *ℤ pos k) <ℤ (b *ℤ pos k) → a <ℤ b
less_times a b k h =
    let times : (up a + down b) * k < (up b + down a) * k = omega (arith, ints) in
    below_in a b (lt_of_mul-lt-mul_right k times)

pub order_reversed : (a b : Fraction) → order a b ≡ ordering_reverse (order b a)
unfolding order
order_reversed a b = int_cmp_total.antisymm (a.numerator *ℤ pos b.denominator) (b.numerator *ℤ pos a.denominator)

pub order_equal : (a b : Fraction) → (order a b ≡ Equal) ↔ SameNumber a b
unfolding order
order_equal a b = int_cmp_equal (a.numerator *ℤ pos b.denominator) (b.numerator *ℤ pos a.denominator)

pub order_less : (a b : Fraction) → (order a b ≡ Less)
    ↔ ((a.numerator *ℤ pos b.denominator) <ℤ (b.numerator *ℤ pos a.denominator))
unfolding order
order_less a b = int_cmp_less (a.numerator *ℤ pos b.denominator) (b.numerator *ℤ pos a.denominator)

pub order_transitive : (a b c : Fraction) → 0 < a.denominator → 0 < b.denominator → 0 < c.denominator
    → order a b ≡ Less → order b c ≡ Less → order a c ≡ Less
order_transitive a b c p q r h k =
    let x = a.denominator in
    let y = b.denominator in
    let z = c.denominator in
    let first : (a.numerator *ℤ pos y *ℤ pos z) <ℤ (b.numerator *ℤ pos x *ℤ pos z) =
    times_less _ _ z r ((order_less a b).0 h) in
    let second : (b.numerator *ℤ pos z *ℤ pos x) <ℤ (c.numerator *ℤ pos y *ℤ pos x) =
    times_less _ _ x p ((order_less b c).0 k) in
    let low = times_comm a.numerator y z in
    let middle = times_comm b.numerator x z in
    let high = times_comm c.numerator y x in
    (order_less a c).1 (less_times _ _ y (omega (arith, ints)))

-- the same over a larger denominator
int_cmp_times : (x y : ℤ) (k : ℕ) → 0 < k → int_cmp (x *ℤ pos k) (y *ℤ pos k) ≡ int_cmp x y
int_cmp_times x y k some = by (int_cmp x y) refl
  where
    by : (r : Ordering) → int_cmp x y ≡ r → int_cmp (x *ℤ pos k) (y *ℤ pos k) ≡ r
    by Less e = (int_cmp_less (x *ℤ pos k) (y *ℤ pos k)).1 (times_less x y k some ((int_cmp_less x y).0 e))
    by Equal e = (int_cmp_equal (x *ℤ pos k) (y *ℤ pos k)).1 (ap (λ n. n *ℤ pos k) ((int_cmp_equal x y).0 e))
    by Greater e =
        let less = (int_cmp_less y x).0 (int_cmp_total.antisymm y x ∙ ap ordering_reverse e) in
        int_cmp_total.antisymm (x *ℤ pos k) (y *ℤ pos k)
        ∙ ap ordering_reverse ((int_cmp_less (y *ℤ pos k) (x *ℤ pos k)).1 (times_less y x k some less))

-- fractions of one number are alike in the order
order_alike : (a b c : Fraction) → 0 < a.denominator → 0 < b.denominator → SameNumber a b → order a c ≡ order b c
unfolding order
order_alike a b c p q e =
    let x = a.denominator in
    let y = b.denominator in
    let z = c.denominator in
    let first : a.numerator *ℤ pos z *ℤ pos y ≡ b.numerator *ℤ pos z *ℤ pos x =
    times_comm a.numerator z y ∙ ap (λ n. n *ℤ pos z) e ∙ times_comm b.numerator x z in
    sym (int_cmp_times _ _ y q) ∙ (λ i. int_cmp (first i) (times_comm c.numerator x y i)) ∙ int_cmp_times _ _ x p

over_one : (d : ℕ) → 0 < max 1 d
over_one d = omega arith

by_number_total : IsTotalOrder (on over_positive order)
by_number_total = record {
  antisymm = λ a b. order_reversed (over_positive a) (over_positive b);
  trans = λ a b c. order_transitive (over_positive a) (over_positive b) (over_positive c)
      (over_one a.denominator) (over_one b.denominator) (over_one c.denominator);
  congr = λ a b c e. order_alike (over_positive a) (over_positive b) (over_positive c) (over_one a.denominator)
      (over_one b.denominator) ((order_equal (over_positive a) (over_positive b)).0 e);
}

pub total_order_total : IsTotalOrder total_order
total_order_total = then_total by_number_total (on_total (λ q. q.denominator) nat_cmp_total)

one_number : (r : Ordering) → (is_eq r && true) ≡ is_eq (ordering_then r Equal)
one_number Less = refl
one_number Equal = refl
one_number Greater = refl

other_denominator : (b : Bool) (r s : Ordering) → is_eq s ≡ false → (b && false) ≡ is_eq (ordering_then r s)
other_denominator true Less s e = refl
other_denominator true Equal s e = sym e
other_denominator true Greater s e = refl
other_denominator false Less s e = refl
other_denominator false Equal s e = sym e
other_denominator false Greater s e = refl

not_tied : (less : Bool) → is_eq (cond less Less (cond false Equal Greater)) ≡ false
not_tied true = refl
not_tied false = refl

alike_by : (m n : ℤ) (d e : ℕ) (t : Bool) → (d == e) ≡ t
    → (int_eq m n && t) ≡ is_eq (ordering_then (int_cmp (m *ℤ pos (max 1 e)) (n *ℤ pos (max 1 d))) (nat_cmp d e))
alike_by m n d e true h =
    let same : d ≡ e = grind (arith, nat_tests) in
    let tied : nat_cmp d e ≡ Equal = ap (nat_cmp d) (sym same) ∙ tied_itself nat_cmp_total d in
    let number : int_cmp (m *ℤ pos (max 1 e)) (n *ℤ pos (max 1 d)) ≡ int_cmp m n =
    ap (λ k. int_cmp (m *ℤ pos (max 1 e)) (n *ℤ pos (max 1 k))) same ∙ int_cmp_times m n (max 1 e) (over_one e) in
    one_number (int_cmp m n) ∙ sym (λ i. is_eq (ordering_then (number i) (tied i)))
alike_by m n d e false h =
    other_denominator (int_eq m n) (int_cmp (m *ℤ pos (max 1 e)) (n *ℤ pos (max 1 d))) (nat_cmp d e)
    (ap (λ t. is_eq (cond (nat_lt d e) Less (cond t Equal Greater))) h ∙ not_tied (nat_lt d e))

-- the pairs that the total order doesn't tell apart are the equal ones
pub total_order_equal : (a b : Fraction)
    → (int_eq a.numerator b.numerator && (a.denominator == b.denominator)) ≡ is_eq (total_order a b)
unfolding order
total_order_equal a b = alike_by a.numerator b.numerator a.denominator b.denominator
    (a.denominator == b.denominator) refl
