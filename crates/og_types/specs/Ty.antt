-- Types: which fit which, their joins, and which values are of a type. Each `step` is the rule for one
-- form of type, whose parts are already what the definition gives of them.
use Rattle.std.specs.Prelude.{◌^◌, Bool, true, false, ◌==◌, ◌&&◌, if◌then◌else◌, nat_lt, ℤ, int_le, unsigned_abs, List, [], ◌∷◌, Option, Some, None, option_and_then}
use Rattle.std.specs.Int.{int_min, int_max}
use Rattle.std.specs.Ordering.{int_eq}
use Rattle.std.specs.Option.{option_map}
use Rattle.std.specs.List.{list_all}
use Rattle.std.specs.Cmp.Lexicographic.{pointwise}
use Rattle.og_frac.specs.Fraction.{Fraction}
use Rattle.og_types.specs.declared.value.Value.{Value}
use Rattle.og_types.specs.declared.value.Value.TheOpen.{Value-F}
use Rattle.og_types.specs.declared.value.Value.TheOpen as value
use Rattle.og_types.specs.declared.value.Value.TheViews.{out-Value}
use Rattle.og_types.specs.declared.ty.Ty.{Ty}
use Rattle.og_types.specs.declared.ty.Ty.TheOpen.{Ty-F}
use Rattle.og_types.specs.declared.ty.Ty.TheOpen as one
use Rattle.og_types.specs.declared.ty.Ty.TheViews.{out-Ty}
use Rattle.og_types.specs.declared.ty.Ty.TheFolds.{fold-Ty}
use Rattle.og_types.specs.declared.ty.Ty.TheVariants as ty

abbrev pub same_step : Ty-F (Ty → Bool) → Ty-F Ty → Bool
same_step (one.Enum family cases) (one.Enum other count) = (family == other) && (cases == count)
same_step one.Bool one.Bool = true
same_step (one.Range low high) (one.Range from to) = int_eq low from && int_eq high to
same_step (one.Tuple parts) (one.Tuple others) = pointwise (λ part other. part other) parts others
same_step one.Number one.Number = true
same_step _ _ = false

-- equal types: of one form, with equal parts
abbrev pub same : Ty → Ty → Bool
same = fold-Ty (Ty → Bool) (λ t u. same_step t (out-Ty u))

abbrev pub fits_step : Ty-F (Ty → Bool) → Ty-F Ty → Bool
fits_step (one.Enum family cases) (one.Enum other count) = (family == other) && (cases == count)
fits_step one.Bool one.Bool = true
fits_step (one.Range low high) (one.Range from to) = int_le from low && int_le high to
fits_step (one.Range low high) one.Number = true
fits_step one.Number one.Number = true
fits_step (one.Tuple parts) (one.Tuple others) = pointwise (λ part other. part other) parts others
fits_step _ _ = false

-- where a value of the first type will do for one of the second: at equal types, for a range in a
-- wider range or as a number, and for tuples component by component
abbrev pub fits : Ty → Ty → Bool
fits = fold-Ty (Ty → Bool) (λ t u. fits_step t (out-Ty u))

-- the joins of the types place by place, where each is there and the lists are as long
abbrev pub joins : List (Ty → Option Ty) → List Ty → Option (List Ty)
joins [] [] = Some []
joins (part ∷ parts) (other ∷ others) =
    option_and_then (λ t. option_map (λ ts. t ∷ ts) (joins parts others)) (part other)
joins _ _ = None

abbrev pub join_step : Ty-F (Ty → Option Ty) → Ty-F Ty → Option Ty
join_step (one.Enum family cases) (one.Enum other count) =
    if (family == other) && (cases == count) then Some (ty.Enum family cases) else None
join_step one.Bool one.Bool = Some ty.Bool
join_step (one.Range low high) (one.Range from to) = Some (ty.Range (int_min low from) (int_max high to))
join_step (one.Range low high) one.Number = Some ty.Number
join_step one.Number (one.Range from to) = Some ty.Number
join_step one.Number one.Number = Some ty.Number
join_step (one.Tuple parts) (one.Tuple others) = option_map ty.Tuple (joins parts others)
join_step _ _ = None

-- the type of what may be of either type
abbrev pub join : Ty → Ty → Option Ty
join = fold-Ty (Ty → Option Ty) (λ t u. join_step t (out-Ty u))

-- a whole number from low to high
abbrev pub is_between : ℤ → ℤ → Fraction → Bool
is_between low high q = (q.denominator == 1) && (int_le low q.numerator && int_le q.numerator high)

abbrev pub holds_step : Ty-F (Value → Bool) → Value-F Value → Bool
holds_step (one.Enum family cases) (value.Case other index) = (family == other) && nat_lt index cases
holds_step one.Bool (value.Flag flag) = true
holds_step (one.Range low high) (value.Number number) = is_between low high number
holds_step (one.Tuple parts) (value.Tuple values) = pointwise (λ part v. part v) parts values
holds_step one.Number (value.Number number) = true
holds_step _ _ = false

-- the value is of the type
abbrev pub holds : Ty → Value → Bool
holds = fold-Ty (Value → Bool) (λ t v. holds_step t (out-Value v))

abbrev pub is_finite_step : Ty-F Bool → Bool
is_finite_step (one.Tuple parts) = list_all (λ part. part) parts
is_finite_step one.Number = false
is_finite_step _ = true

-- no number stands in the type
abbrev pub is_finite : Ty → Bool
is_finite = fold-Ty Bool is_finite_step

abbrev pub bounds_fit_step : Ty-F Bool → Bool
bounds_fit_step (one.Range low high) = nat_lt (unsigned_abs low) (2 ^ 63) && nat_lt (unsigned_abs high) (2 ^ 63)
bounds_fit_step (one.Tuple parts) = list_all (λ part. part) parts
bounds_fit_step _ = true

-- the bounds of each range in the type are below 2^63 in size, as a fraction's numerator is
abbrev pub bounds_fit : Ty → Bool
bounds_fit = fold-Ty Bool bounds_fit_step
