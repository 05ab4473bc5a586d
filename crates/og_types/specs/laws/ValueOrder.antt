-- The order of values is total, and it finds two values equal exactly where they are: what the impls
-- of Ord and PartialOrd cite.
use Rattle.std.proofs.Common.{◌≡◌, ℕ, Bool, true, false, ◌==◌, List, [], ◌∷◌, map, ap, sym, subst, ◌∙◌, refl}
use Rattle.std.specs.Prelude.{◌↔◌}
use Rattle.std.specs.Ordering.{nat_cmp, bool_cmp, is_eq, ordering_then, ordering_reverse}
use Rattle.std.specs.Cmp.{IsTotalOrder, Equal-is, nat_cmp_total, bool_cmp_total, on_total, then_total, then_flip, both_tied, unsigned_ties}
use Rattle.std.specs.Cmp.Lexicographic.{pointwise, slice_cmp}
use Rattle.std.specs.declared.cmp.Ordering.{Ordering}
use Rattle.std.specs.declared.cmp.Ordering.TheVariants.{Less, Equal, Greater}
use Rattle.og_frac.specs.laws.Orders.{total_order_total, total_order_equal}
use Rattle.og_types.specs.declared.value.Value.{Value}
use Rattle.og_types.specs.declared.value.Value.TheOpen.{Value-F}
use Rattle.og_types.specs.declared.value.Value.TheOpen as one
use Rattle.og_types.specs.declared.value.Value.TheViews.{out-Value, roll-Value, roll-out-Value, out-roll-Value}
use Rattle.og_types.specs.declared.value.Value.TheFolds.{fold-roll-Value, map-Value, ind-Value}
use Rattle.og_types.specs.Value.{same, same_step, same_flag, order, order_step}
use Rattle.og_types.specs.laws.ValueEquality.{same_at, same_equal, same_itself}

pub order_at : (z : Value-F Value) (w : Value)
    → order (roll-Value z) w ≡ order_step (map-Value Value (Value → Ordering) order z) (out-Value w)
order_at z w = λ i. fold-roll-Value (Value → Ordering) (λ v w. order_step v (out-Value w)) z i w

-- the same at any value
order_open : (v w : Value) → order v w
    ≡ order_step (map-Value Value (Value → Ordering) order (out-Value v)) (out-Value w)
order_open v w = ap (λ u. order u w) (sym (roll-out-Value v)) ∙ order_at (out-Value v) w

-- cases by their enum and then by their place in it
cases_total : IsTotalOrder (λ (a b : ℕ × ℕ). ordering_then (nat_cmp a.0 b.0) (nat_cmp a.1 b.1))
cases_total = then_total (on_total (λ a. a.0) nat_cmp_total) (on_total (λ a. a.1) nat_cmp_total)

-- equal where the order says so

abbrev Tied : Value → Type 0
Tied v = (w : Value) → same v w ≡ is_eq (order v w)

flags_tied : (a b : Bool) → same_flag a b ≡ is_eq (bool_cmp a b)
flags_tied true true = refl
flags_tied true false = refl
flags_tied false true = refl
flags_tied false false = refl

parts_tied : (es : List ((v : Value) × Tied v)) (ws : List Value)
    → pointwise (λ part other. part other) (map same (map (λ e. e.0) es)) ws
    ≡ is_eq (slice_cmp (λ part other. part other) (map order (map (λ e. e.0) es)) ws)
parts_tied [] [] = refl
parts_tied [] (w ∷ ws) = refl
parts_tied (e ∷ es) [] = refl
parts_tied (e ∷ es) (w ∷ ws) = both_tied (same e.0 w)
    (pointwise (λ part other. part other) (map same (map (λ e. e.0) es)) ws) (order e.0 w)
    (slice_cmp (λ part other. part other) (map order (map (λ e. e.0) es)) ws) (e.1 w) (parts_tied es ws)

levels_tied : (y : Value-F ((v : Value) × Tied v)) (z : Value-F Value)
    → same_step (map-Value Value (Value → Bool) same (map-Value ((v : Value) × Tied v) Value (λ e. e.0) y)) z
    ≡ is_eq (order_step (map-Value Value (Value → Ordering) order
    (map-Value ((v : Value) × Tied v) Value (λ e. e.0) y)) z)
levels_tied (one.Case family index) (one.Case other at) =
    both_tied (family == other) (index == at) (nat_cmp family other) (nat_cmp index at)
    (unsigned_ties family other) (unsigned_ties index at)
levels_tied (one.Flag a) (one.Flag b) = flags_tied a b
levels_tied (one.Number p) (one.Number q) = total_order_equal p q
levels_tied (one.Tuple es) (one.Tuple ws) = parts_tied es ws
levels_tied _ _ = refl

pub order_equal : (v w : Value) → same v w ≡ is_eq (order v w)
order_equal = ind-Value Tied (λ x y is. subst (λ z. Tied (roll-Value z)) is (λ w.
    let z = map-Value ((v : Value) × Tied v) Value (λ e. e.0) y in
    same_at z w ∙ levels_tied y (out-Value w) ∙ ap is_eq (sym (order_at z w))))

pub equal_in_order : (v w : Value) → order v w ≡ Equal → v ≡ w
equal_in_order v w e = same_equal v w (order_equal v w ∙ ap is_eq e)

pub order_itself : (v : Value) → order v v ≡ Equal
order_itself v = (Equal-is (order v v)).0 (sym (order_equal v v) ∙ same_itself v)

-- the other way round

abbrev Reversed : Value → Type 0
Reversed v = (w : Value) → order v w ≡ ordering_reverse (order w v)

parts_reversed : (es : List ((v : Value) × Reversed v)) (ws : List Value)
    → slice_cmp (λ part other. part other) (map order (map (λ e. e.0) es)) ws
    ≡ ordering_reverse (slice_cmp (λ part other. part other) (map order ws) (map (λ e. e.0) es))
parts_reversed [] [] = refl
parts_reversed [] (w ∷ ws) = refl
parts_reversed (e ∷ es) [] = refl
parts_reversed (e ∷ es) (w ∷ ws) = (λ i. ordering_then (e.1 w i) (parts_reversed es ws i))
    ∙ then_flip (order w e.0) (slice_cmp (λ part other. part other) (map order ws) (map (λ e. e.0) es))

levels_reversed : (y : Value-F ((v : Value) × Reversed v)) (z : Value-F Value)
    → order_step (map-Value Value (Value → Ordering) order
    (map-Value ((v : Value) × Reversed v) Value (λ e. e.0) y)) z
    ≡ ordering_reverse (order_step (map-Value Value (Value → Ordering) order z)
    (map-Value ((v : Value) × Reversed v) Value (λ e. e.0) y))
levels_reversed (one.Case family index) (one.Case other at) = cases_total.antisymm (family, index) (other, at)
levels_reversed (one.Flag a) (one.Flag b) = bool_cmp_total.antisymm a b
levels_reversed (one.Number p) (one.Number q) = total_order_total.antisymm p q
levels_reversed (one.Tuple es) (one.Tuple ws) = parts_reversed es ws
levels_reversed _ _ = refl

pub order_reversed : (v w : Value) → order v w ≡ ordering_reverse (order w v)
order_reversed = ind-Value Reversed (λ x y is. subst (λ z. Reversed (roll-Value z)) is (λ w.
    let z = map-Value ((v : Value) × Reversed v) Value (λ e. e.0) y in
    order_at z w ∙ levels_reversed y (out-Value w)
    ∙ ap ordering_reverse (ap (order_step (map-Value Value (Value → Ordering) order (out-Value w)))
    (sym (out-roll-Value z)) ∙ sym (order_open w (roll-Value z)))))

-- what stands before goes along

then_along : (r s t a b c : Ordering) → (r ≡ Less → s ≡ Less → t ≡ Less) → (r ≡ Equal → t ≡ s)
    → (s ≡ Equal → t ≡ r) → (a ≡ Less → b ≡ Less → c ≡ Less) → ordering_then r a ≡ Less
    → ordering_then s b ≡ Less → ordering_then t c ≡ Less
then_along Less Less t a b c f g h k p q = ap (λ o. ordering_then o c) (f refl refl)
then_along Less Equal t a b c f g h k p q = ap (λ o. ordering_then o c) (h refl)
then_along Less Greater t a b c f g h k p q = absurd (cc)
then_along Equal Less t a b c f g h k p q = ap (λ o. ordering_then o c) (g refl)
then_along Equal Equal t a b c f g h k p q = ap (λ o. ordering_then o c) (g refl) ∙ k p q
then_along Equal Greater t a b c f g h k p q = absurd (cc)
then_along Greater s t a b c f g h k p q = absurd (cc)

abbrev Along : Value → Type 0
Along u = (v w : Value) → order u v ≡ Less → order v w ≡ Less → order u w ≡ Less

parts_along : (es : List ((v : Value) × Along v)) (vs ws : List Value)
    → slice_cmp (λ part other. part other) (map order (map (λ e. e.0) es)) vs ≡ Less
    → slice_cmp (λ part other. part other) (map order vs) ws ≡ Less
    → slice_cmp (λ part other. part other) (map order (map (λ e. e.0) es)) ws ≡ Less
parts_along [] [] ws p q = q
parts_along [] (v ∷ vs) [] p q = absurd (cc)
parts_along [] (v ∷ vs) (w ∷ ws) p q = refl
parts_along (e ∷ es) [] ws p q = absurd (cc)
parts_along (e ∷ es) (v ∷ vs) [] p q = absurd (cc)
parts_along (e ∷ es) (v ∷ vs) (w ∷ ws) p q =
    then_along (order e.0 v) (order v w) (order e.0 w)
    (slice_cmp (λ part other. part other) (map order (map (λ e. e.0) es)) vs)
    (slice_cmp (λ part other. part other) (map order vs) ws)
    (slice_cmp (λ part other. part other) (map order (map (λ e. e.0) es)) ws)
    (e.1 v w) (λ h. ap (λ u. order u w) (equal_in_order e.0 v h)) (λ h.
    ap (order e.0) (sym (equal_in_order v w h))) (parts_along es vs ws) p q

levels_along : (y : Value-F ((v : Value) × Along v)) (z x : Value-F Value)
    → order_step (map-Value Value (Value → Ordering) order
    (map-Value ((v : Value) × Along v) Value (λ e. e.0) y)) z ≡ Less
    → order_step (map-Value Value (Value → Ordering) order z) x ≡ Less
    → order_step (map-Value Value (Value → Ordering) order
    (map-Value ((v : Value) × Along v) Value (λ e. e.0) y)) x ≡ Less
levels_along (one.Case family index) (one.Case other at) (one.Case last place) p q =
    cases_total.trans (family, index) (other, at) (last, place) p q
levels_along (one.Flag a) (one.Flag b) (one.Flag c) p q = bool_cmp_total.trans a b c p q
levels_along (one.Number a) (one.Number b) (one.Number c) p q = total_order_total.trans a b c p q
levels_along (one.Tuple es) (one.Tuple vs) (one.Tuple ws) p q = parts_along es vs ws p q
levels_along (one.Case family index) (one.Flag b) (one.Case last place) p q = (cc)
levels_along (one.Case family index) (one.Number b) (one.Case last place) p q = (cc)
levels_along (one.Case family index) (one.Tuple vs) (one.Case last place) p q = (cc)
levels_along (one.Flag a) (one.Number b) (one.Case last place) p q = (cc)
levels_along (one.Flag a) (one.Tuple vs) (one.Case last place) p q = (cc)
levels_along (one.Number a) (one.Tuple vs) (one.Case last place) p q = (cc)
levels_along _ _ _ p q = (cc)

pub order_along : (u v w : Value) → order u v ≡ Less → order v w ≡ Less → order u w ≡ Less
order_along = ind-Value Along (λ x y is. subst (λ z. Along (roll-Value z)) is (λ v w p q.
    let z = map-Value ((v : Value) × Along v) Value (λ e. e.0) y in
    order_at z w ∙ levels_along y (out-Value v) (out-Value w) (sym (order_at z v) ∙ p) (sym (order_open v w) ∙ q)))

pub order_total : IsTotalOrder order
order_total = record {
  antisymm = order_reversed;
  trans = order_along;
  congr = λ u v w e. ap (λ t. order t w) (equal_in_order u v e);
}

pub order_decides : (v w : Value) → (order v w ≡ Equal) ↔ (v ≡ w)
order_decides v w = (equal_in_order v w, λ e. ap (order v) (sym e) ∙ order_itself v)
