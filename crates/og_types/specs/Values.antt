-- The values of a finite type, in order, and the tuples of several types.
use Rattle.std.specs.Prelude.{◌≡◌, ℕ, ◌+◌, ◌≤◌, Bool, true, false, if◌then◌else◌, min, ℤ, pos, ◌+ℤ◌, int_le, List, [], ◌∷◌, map, length, Option, Some, None}
use Rattle.std.specs.Int.{int_gap}
use Rattle.std.specs.List.{list_all, flat_map, range_with_len}
use Rattle.std.specs.Option.{option_map}
use Rattle.std.specs.Cmp.Lexicographic.{pointwise}
use Rattle.og_frac.specs.Fraction.{whole}
use Rattle.og_types.specs.declared.value.Value.{Value}
use Rattle.og_types.specs.declared.value.Value.TheVariants as value
use Rattle.og_types.specs.declared.ty.Ty.{Ty}
use Rattle.og_types.specs.declared.ty.Ty.TheOpen.{Ty-F}
use Rattle.og_types.specs.declared.ty.Ty.TheOpen as one
use Rattle.og_types.specs.declared.ty.Ty.TheFolds.{fold-Ty}
use Rattle.og_types.specs.Ty.{is_finite}
use Rattle.og_types.specs.Value.{same}

-- how many whole numbers there are from low to high
abbrev pub span : ℤ → ℤ → ℕ
span low high = if int_le low high then int_gap low high + 1 else 0

-- one item of each list, the first list's items slowest
abbrev pub tuples : List (List Value) → List (List Value)
tuples [] = [] ∷ []
tuples (firsts ∷ rest) = flat_map (λ first. map (λ others. first ∷ others) (tuples rest)) firsts

abbrev pub values_step : Ty-F (List Value) → List Value
values_step (one.Enum family cases) = map (λ index. value.Case family index) (range_with_len 0 cases)
values_step one.Bool = value.Flag false ∷ value.Flag true ∷ []
values_step (one.Range low high) = map (λ k. value.Number (whole (low +ℤ pos k))) (range_with_len 0 (span low high))
values_step (one.Tuple parts) = map value.Tuple (tuples parts)
values_step one.Number = []

-- all values of a finite type, in order: an enum's cases as written, false before true, a range
-- upwards, tuples with the first component slowest; of the number type there is no list
abbrev pub values_of : Ty → List Value
values_of = fold-Ty (List Value) values_step

-- all lists of one value of each type, the first type slowest
abbrev pub joint_values_of : List Ty → List (List Value)
joint_values_of types = tuples (map values_of types)

-- how many there are, or 4,097 where there are more; of what isn't finite there is no count
abbrev pub capped_count : Bool → ℕ → Option ℕ
capped_count finite many = if finite then Some (min many 4097) else None

-- a finite type of at most 4,096 values
pub record IsSmall (t : Ty) : Type 0 where
  pub finite : is_finite t ≡ true
  pub few : length (values_of t) ≤ 4096

-- finite types with at most 4,096 tuples
pub record AreSmall (types : List Ty) : Type 0 where
  pub finite : list_all is_finite types ≡ true
  pub few : length (joint_values_of types) ≤ 4096

-- the first place, from 0, at which the test passes
abbrev pub place_of : {X : Type 0} → (X → Bool) → List X → Option ℕ
place_of test [] = None
place_of test (x ∷ xs) = if test x then Some 0 else option_map (λ k. k + 1) (place_of test xs)

-- the place of a value among those of the type
abbrev pub rank_of : Ty → Value → Option ℕ
rank_of t v = place_of (same v) (values_of t)

-- the place of a list of values among the tuples of the types
abbrev pub joint_rank_of : List Ty → List Value → Option ℕ
joint_rank_of types values = place_of (pointwise same values) (joint_values_of types)
