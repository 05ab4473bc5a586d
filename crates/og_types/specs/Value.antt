-- Values: when two are equal, and in which order they stand. Each `step` is the rule for one form of
-- value, whose parts are already what the definition gives of them.
use Rattle.std.specs.Prelude.{ℕ, Bool, true, false, ◌==◌, ◌&&◌, Option, Some, None, slice_get}
use Rattle.std.specs.Ordering.{nat_cmp, bool_cmp, int_eq, ordering_then}
use Rattle.std.specs.Cmp.Lexicographic.{pointwise, slice_cmp}
use Rattle.std.specs.declared.cmp.Ordering.{Ordering}
use Rattle.std.specs.declared.cmp.Ordering.TheVariants.{Less, Greater}
use Rattle.og_frac.specs.Fraction as fraction
use Rattle.og_frac.specs.Fraction.{Fraction}
use Rattle.og_types.specs.declared.value.Value.{Value}
use Rattle.og_types.specs.declared.value.Value.TheOpen.{Value-F}
use Rattle.og_types.specs.declared.value.Value.TheOpen as one
use Rattle.og_types.specs.declared.value.Value.TheViews.{out-Value}
use Rattle.og_types.specs.declared.value.Value.TheFolds.{fold-Value}

abbrev pub same_flag : Bool → Bool → Bool
same_flag true b = b
same_flag false true = false
same_flag false false = true

-- both parts are equal
abbrev pub same_fraction : Fraction → Fraction → Bool
same_fraction p q = int_eq p.numerator q.numerator && (p.denominator == q.denominator)

abbrev pub same_step : Value-F (Value → Bool) → Value-F Value → Bool
same_step (one.Case family index) (one.Case other at) = (family == other) && (index == at)
same_step (one.Flag a) (one.Flag b) = same_flag a b
same_step (one.Number p) (one.Number q) = same_fraction p q
same_step (one.Tuple parts) (one.Tuple others) = pointwise (λ part other. part other) parts others
same_step _ _ = false

-- equal values: of one form, with equal parts
abbrev pub same : Value → Value → Bool
same = fold-Value (Value → Bool) (λ v w. same_step v (out-Value w))

-- cases by their enum and then by their place in it, false before true, numbers by value, tuples by
-- their first component, then the second, and so on; the forms in this order
abbrev pub order_step : Value-F (Value → Ordering) → Value-F Value → Ordering
order_step (one.Case family index) (one.Case other at) = ordering_then (nat_cmp family other) (nat_cmp index at)
order_step (one.Case family index) _ = Less
order_step (one.Flag a) (one.Case other at) = Greater
order_step (one.Flag a) (one.Flag b) = bool_cmp a b
order_step (one.Flag a) _ = Less
order_step (one.Number p) (one.Number q) = fraction.total_order p q
order_step (one.Number p) (one.Tuple others) = Less
order_step (one.Number p) _ = Greater
order_step (one.Tuple parts) (one.Tuple others) = slice_cmp (λ part other. part other) parts others
order_step (one.Tuple parts) _ = Greater

abbrev pub order : Value → Value → Ordering
order = fold-Value (Value → Ordering) (λ v w. order_step v (out-Value w))

-- ---- what a value has by its form

abbrev pub flag_of : Value → Option Bool
flag_of v = elim (out-Value v) [ one.Flag flag ↦ Some flag | _ ↦ None ]

abbrev pub number_of : Value → Option Fraction
number_of v = elim (out-Value v) [ one.Number number ↦ Some number | _ ↦ None ]

abbrev pub part_of : ℕ → Value → Option Value
part_of k v = elim (out-Value v) [ one.Tuple parts ↦ slice_get parts k | _ ↦ None ]
