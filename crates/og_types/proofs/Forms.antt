-- What fitting, joins and the values of a type are at each form, and what a value of a type and a type
-- that fits another look like.
use Rattle.std.proofs.Common.{◌≡◌, ℕ, ◌<◌, ℤ, Bool, true, ◌&&◌, ◌==◌, if◌then◌else◌, List, map, ◌⊎◌, inl, inr, ap, sym, ◌∙◌, eqb-true, ltb-true}
use Rattle.std.specs.Prelude.{int_le, nat_lt, Option, Some, None}
use Rattle.std.specs.Int.{int_min, int_max}
use Rattle.std.specs.Cmp.Lexicographic.{pointwise}
use Rattle.std.proofs.lemmas.Bool.{and_parts}
use Rattle.og_frac.specs.Fraction.{Fraction}
use Rattle.og_types.specs.declared.value.Value.{Value}
use Rattle.og_types.specs.declared.value.Value.TheOpen.{Value-F}
use Rattle.og_types.specs.declared.value.Value.TheOpen as open_value
use Rattle.og_types.specs.declared.value.Value.TheViews.{out-Value, roll-Value, roll-out-Value}
use Rattle.og_types.specs.declared.value.Value.TheVariants as value
use Rattle.og_types.specs.declared.ty.Ty.{Ty}
use Rattle.og_types.specs.declared.ty.Ty.TheOpen.{Ty-F}
use Rattle.og_types.specs.declared.ty.Ty.TheOpen as one
use Rattle.og_types.specs.declared.ty.Ty.TheViews.{out-Ty, roll-Ty, roll-out-Ty}
use Rattle.og_types.specs.declared.ty.Ty.TheFolds.{map-Ty}
use Rattle.og_types.specs.declared.ty.Ty.TheVariants as ty
use Rattle.og_types.specs.Ty.{fits, fits_step, join, join_step, holds, holds_step, is_between}
use Rattle.og_types.proofs.Pointwise.{pointwise-map_first}
use Rattle.og_types.proofs.FitsLaws.{fits_at, fits_open, holds_at}
use Rattle.og_types.proofs.JoinLaws.{join_at}

-- fitting, from the forms of the two types
fits_forms : (z x : Ty-F Ty) (t u : Ty) → roll-Ty z ≡ t → out-Ty u ≡ x
    → fits t u ≡ fits_step (map-Ty Ty (Ty → Bool) fits z) x
fits_forms z x t u p q =
    ap (λ w. fits w u) (sym p) ∙ fits_at z u ∙ ap (fits_step (map-Ty Ty (Ty → Bool) fits z)) q

pub fits_enums : (family cases other count : ℕ)
    → fits (ty.Enum family cases) (ty.Enum other count) ≡ (family == other) && (cases == count)
fits_enums family cases other count =
    fits_forms (one.Enum family cases) (one.Enum other count) (ty.Enum family cases) (ty.Enum other count)
    (ty.rolls-Enum family cases) (ty.outs-Enum other count)

pub fits_bool : fits ty.Bool ty.Bool ≡ true
fits_bool = fits_forms one.Bool one.Bool ty.Bool ty.Bool ty.rolls-Bool ty.outs-Bool

pub fits_ranges : (low high from to : ℤ)
    → fits (ty.Range low high) (ty.Range from to) ≡ int_le from low && int_le high to
fits_ranges low high from to =
    fits_forms (one.Range low high) (one.Range from to) (ty.Range low high) (ty.Range from to)
    (ty.rolls-Range low high) (ty.outs-Range from to)

pub fits_range_number : (low high : ℤ) → fits (ty.Range low high) ty.Number ≡ true
fits_range_number low high =
    fits_forms (one.Range low high) one.Number (ty.Range low high) ty.Number (ty.rolls-Range low high) ty.outs-Number

pub fits_number : fits ty.Number ty.Number ≡ true
fits_number = fits_forms one.Number one.Number ty.Number ty.Number ty.rolls-Number ty.outs-Number

-- the join, from the forms of the two types
join_forms : (z x : Ty-F Ty) (t u : Ty) → roll-Ty z ≡ t → out-Ty u ≡ x
    → join t u ≡ join_step (map-Ty Ty (Ty → Option Ty) join z) x
join_forms z x t u p q =
    ap (λ w. join w u) (sym p) ∙ join_at z u ∙ ap (join_step (map-Ty Ty (Ty → Option Ty) join z)) q

pub join_enums : (family cases other count : ℕ) → join (ty.Enum family cases) (ty.Enum other count)
    ≡ (if (family == other) && (cases == count) then Some (ty.Enum family cases) else None)
join_enums family cases other count =
    join_forms (one.Enum family cases) (one.Enum other count) (ty.Enum family cases) (ty.Enum other count)
    (ty.rolls-Enum family cases) (ty.outs-Enum other count)

pub join_bool : join ty.Bool ty.Bool ≡ Some ty.Bool
join_bool = join_forms one.Bool one.Bool ty.Bool ty.Bool ty.rolls-Bool ty.outs-Bool

pub join_ranges : (low high from to : ℤ)
    → join (ty.Range low high) (ty.Range from to) ≡ Some (ty.Range (int_min low from) (int_max high to))
join_ranges low high from to =
    join_forms (one.Range low high) (one.Range from to) (ty.Range low high) (ty.Range from to)
    (ty.rolls-Range low high) (ty.outs-Range from to)

pub join_range_number : (low high : ℤ) → join (ty.Range low high) ty.Number ≡ Some ty.Number
join_range_number low high =
    join_forms (one.Range low high) one.Number (ty.Range low high) ty.Number (ty.rolls-Range low high) ty.outs-Number

pub join_number_range : (low high : ℤ) → join ty.Number (ty.Range low high) ≡ Some ty.Number
join_number_range low high =
    join_forms one.Number (one.Range low high) ty.Number (ty.Range low high) ty.rolls-Number (ty.outs-Range low high)

pub join_number : join ty.Number ty.Number ≡ Some ty.Number
join_number = join_forms one.Number one.Number ty.Number ty.Number ty.rolls-Number ty.outs-Number

-- whether a value is of a type, from the type's form
holds_seen : (z : Ty-F Ty) (t : Ty) (v : Value) → roll-Ty z ≡ t
    → holds t v ≡ holds_step (map-Ty Ty (Value → Bool) holds z) (out-Value v)
holds_seen z t v p = ap (λ w. holds w v) (sym p) ∙ holds_at z v

-- and from the value's form too
holds_forms : (z : Ty-F Ty) (x : Value-F Value) (t : Ty) (v : Value) → roll-Ty z ≡ t → out-Value v ≡ x
    → holds t v ≡ holds_step (map-Ty Ty (Value → Bool) holds z) x
holds_forms z x t v p q = holds_seen z t v p ∙ ap (holds_step (map-Ty Ty (Value → Bool) holds z)) q

pub holds_enum : (family cases other index : ℕ)
    → holds (ty.Enum family cases) (value.Case other index) ≡ (family == other) && nat_lt index cases
holds_enum family cases other index =
    holds_forms (one.Enum family cases) (open_value.Case other index) (ty.Enum family cases) (value.Case other index)
    (ty.rolls-Enum family cases) (value.outs-Case other index)

pub holds_bool : (b : Bool) → holds ty.Bool (value.Flag b) ≡ true
holds_bool b = holds_forms one.Bool (open_value.Flag b) ty.Bool (value.Flag b) ty.rolls-Bool (value.outs-Flag b)

pub holds_range : (low high : ℤ) (q : Fraction)
    → holds (ty.Range low high) (value.Number q) ≡ is_between low high q
holds_range low high q =
    holds_forms (one.Range low high) (open_value.Number q) (ty.Range low high) (value.Number q)
    (ty.rolls-Range low high) (value.outs-Number q)

pub holds_number : (q : Fraction) → holds ty.Number (value.Number q) ≡ true
holds_number q =
    holds_forms one.Number (open_value.Number q) ty.Number (value.Number q) ty.rolls-Number (value.outs-Number q)

-- a value of an enum is a case of it
pub value_of_enum : (family cases : ℕ) (v : Value) → holds (ty.Enum family cases) v ≡ true
    → (index : ℕ) × (v ≡ value.Case family index) × (index < cases)
value_of_enum family cases v h =
    by (out-Value v) (roll-out-Value v)
    (sym (holds_seen (one.Enum family cases) (ty.Enum family cases) v (ty.rolls-Enum family cases)) ∙ h)
  where
    by : (x : Value-F Value) → roll-Value x ≡ v → holds_step (one.Enum family cases) x ≡ true
        → (index : ℕ) × (v ≡ value.Case family index) × (index < cases)
    by (open_value.Case other index) e k =
        let both = and_parts (family == other) (nat_lt index cases) k in (
          index,
          sym e ∙ value.rolls-Case other index
              ∙ ap (λ f. value.Case f index) (sym (eqb-true family other both.0)),
          ltb-true index cases both.1,
        )
    by _ e k = absurd (cc)

-- a truth is true or false
pub value_of_bool : (v : Value) → holds ty.Bool v ≡ true → (b : Bool) × (v ≡ value.Flag b)
value_of_bool v h = by (out-Value v) (roll-out-Value v) (sym (holds_seen one.Bool ty.Bool v ty.rolls-Bool) ∙ h)
  where
    by : (x : Value-F Value) → roll-Value x ≡ v → holds_step one.Bool x ≡ true → (b : Bool) × (v ≡ value.Flag b)
    by (open_value.Flag b) e k = (b, sym e ∙ value.rolls-Flag b)
    by _ e k = absurd (cc)

-- a value of a range is a number in it
pub value_of_range : (low high : ℤ) (v : Value) → holds (ty.Range low high) v ≡ true
    → (q : Fraction) × (v ≡ value.Number q) × (is_between low high q ≡ true)
value_of_range low high v h =
    by (out-Value v) (roll-out-Value v)
    (sym (holds_seen (one.Range low high) (ty.Range low high) v (ty.rolls-Range low high)) ∙ h)
  where
    by : (x : Value-F Value) → roll-Value x ≡ v → holds_step (one.Range low high) x ≡ true
        → (q : Fraction) × (v ≡ value.Number q) × (is_between low high q ≡ true)
    by (open_value.Number q) e k = (q, sym e ∙ value.rolls-Number q, k)
    by _ e k = absurd (cc)

-- a value of the number type is a number
pub value_of_number : (v : Value) → holds ty.Number v ≡ true → (q : Fraction) × (v ≡ value.Number q)
value_of_number v h =
    by (out-Value v) (roll-out-Value v) (sym (holds_seen one.Number ty.Number v ty.rolls-Number) ∙ h)
  where
    by : (x : Value-F Value) → roll-Value x ≡ v → holds_step one.Number x ≡ true → (q : Fraction) × (v ≡ value.Number q)
    by (open_value.Number q) e k = (q, sym e ∙ value.rolls-Number q)
    by _ e k = absurd (cc)

-- a value of a tuple is one value of each of its types
pub value_of_tuple : (ts : List Ty) (v : Value) → holds (ty.Tuple ts) v ≡ true
    → (vs : List Value) × (v ≡ value.Tuple vs) × (pointwise holds ts vs ≡ true)
value_of_tuple ts v h =
    by (out-Value v) (roll-out-Value v) (sym (holds_seen (one.Tuple ts) (ty.Tuple ts) v (ty.rolls-Tuple ts)) ∙ h)
  where
    by : (x : Value-F Value) → roll-Value x ≡ v → holds_step (one.Tuple (map holds ts)) x ≡ true
        → (vs : List Value) × (v ≡ value.Tuple vs) × (pointwise holds ts vs ≡ true)
    by (open_value.Tuple vs) e k =
        (vs, sym e ∙ value.rolls-Tuple vs, sym (pointwise-map_first holds (λ part w. part w) ts vs) ∙ k)
    by _ e k = absurd (cc)

-- what fits a type of a form
fits_into : (t u : Ty) (x : Ty-F Ty) → out-Ty u ≡ x → fits t u ≡ true
    → fits_step (map-Ty Ty (Ty → Bool) fits (out-Ty t)) x ≡ true
fits_into t u x p h = ap (fits_step (map-Ty Ty (Ty → Bool) fits (out-Ty t))) (sym p) ∙ sym (fits_open t u) ∙ h

pub fits_into_enum : (family cases : ℕ) (t : Ty) → fits t (ty.Enum family cases) ≡ true → t ≡ ty.Enum family cases
fits_into_enum family cases t h =
    by (out-Ty t) (roll-out-Ty t)
    (fits_into t (ty.Enum family cases) (one.Enum family cases) (ty.outs-Enum family cases) h)
  where
    by : (z : Ty-F Ty) → roll-Ty z ≡ t
        → fits_step (map-Ty Ty (Ty → Bool) fits z) (one.Enum family cases) ≡ true → t ≡ ty.Enum family cases
    by (one.Enum other count) e k =
        let both = and_parts (other == family) (count == cases) k in
        sym e ∙ ty.rolls-Enum other count
        ∙ (λ i. ty.Enum (eqb-true other family both.0 i) (eqb-true count cases both.1 i))
    by _ e k = absurd (cc)

pub fits_into_bool : (t : Ty) → fits t ty.Bool ≡ true → t ≡ ty.Bool
fits_into_bool t h = by (out-Ty t) (roll-out-Ty t) (fits_into t ty.Bool one.Bool ty.outs-Bool h)
  where
    by : (z : Ty-F Ty) → roll-Ty z ≡ t → fits_step (map-Ty Ty (Ty → Bool) fits z) one.Bool ≡ true → t ≡ ty.Bool
    by one.Bool e k = sym e ∙ ty.rolls-Bool
    by _ e k = absurd (cc)

pub fits_into_range : (from to : ℤ) (t : Ty) → fits t (ty.Range from to) ≡ true
    → (low : ℤ) × (high : ℤ) × (t ≡ ty.Range low high) × (int_le from low ≡ true) × (int_le high to ≡ true)
fits_into_range from to t h =
    by (out-Ty t) (roll-out-Ty t) (fits_into t (ty.Range from to) (one.Range from to) (ty.outs-Range from to) h)
  where
    by : (z : Ty-F Ty) → roll-Ty z ≡ t
        → fits_step (map-Ty Ty (Ty → Bool) fits z) (one.Range from to) ≡ true
        → (low : ℤ) × (high : ℤ) × (t ≡ ty.Range low high) × (int_le from low ≡ true) × (int_le high to ≡ true)
    by (one.Range low high) e k =
        let both = and_parts (int_le from low) (int_le high to) k in
        (low, high, sym e ∙ ty.rolls-Range low high, both.0, both.1)
    by _ e k = absurd (cc)

pub fits_into_number : (t : Ty) → fits t ty.Number ≡ true
    → (t ≡ ty.Number) ⊎ ((low : ℤ) × (high : ℤ) × (t ≡ ty.Range low high))
fits_into_number t h = by (out-Ty t) (roll-out-Ty t) (fits_into t ty.Number one.Number ty.outs-Number h)
  where
    by : (z : Ty-F Ty) → roll-Ty z ≡ t → fits_step (map-Ty Ty (Ty → Bool) fits z) one.Number ≡ true
        → (t ≡ ty.Number) ⊎ ((low : ℤ) × (high : ℤ) × (t ≡ ty.Range low high))
    by one.Number e k = inl (sym e ∙ ty.rolls-Number)
    by (one.Range low high) e k = inr (low, high, sym e ∙ ty.rolls-Range low high)
    by _ e k = absurd (cc)

pub fits_into_tuple : (us : List Ty) (t : Ty) → fits t (ty.Tuple us) ≡ true
    → (ts : List Ty) × (t ≡ ty.Tuple ts) × (pointwise fits ts us ≡ true)
fits_into_tuple us t h =
    by (out-Ty t) (roll-out-Ty t) (fits_into t (ty.Tuple us) (one.Tuple us) (ty.outs-Tuple us) h)
  where
    by : (z : Ty-F Ty) → roll-Ty z ≡ t → fits_step (map-Ty Ty (Ty → Bool) fits z) (one.Tuple us) ≡ true
        → (ts : List Ty) × (t ≡ ty.Tuple ts) × (pointwise fits ts us ≡ true)
    by (one.Tuple ts) e k =
        (ts, sym e ∙ ty.rolls-Tuple ts, sym (pointwise-map_first fits (λ part other. part other) ts us) ∙ k)
    by _ e k = absurd (cc)

-- what a type of a form fits
fits_from : (z : Ty-F Ty) (t u : Ty) → roll-Ty z ≡ t → fits t u ≡ true
    → fits_step (map-Ty Ty (Ty → Bool) fits z) (out-Ty u) ≡ true
fits_from z t u p h = sym (ap (λ w. fits w u) (sym p) ∙ fits_at z u) ∙ h

pub fits_from_enum : (family cases : ℕ) (u : Ty) → fits (ty.Enum family cases) u ≡ true → u ≡ ty.Enum family cases
fits_from_enum family cases u h =
    by (out-Ty u) (roll-out-Ty u)
    (fits_from (one.Enum family cases) (ty.Enum family cases) u (ty.rolls-Enum family cases) h)
  where
    by : (x : Ty-F Ty) → roll-Ty x ≡ u → fits_step (one.Enum family cases) x ≡ true → u ≡ ty.Enum family cases
    by (one.Enum other count) e k =
        let both = and_parts (family == other) (cases == count) k in
        sym e ∙ ty.rolls-Enum other count
        ∙ sym (λ i. ty.Enum (eqb-true family other both.0 i) (eqb-true cases count both.1 i))
    by _ e k = absurd (cc)

pub fits_from_bool : (u : Ty) → fits ty.Bool u ≡ true → u ≡ ty.Bool
fits_from_bool u h = by (out-Ty u) (roll-out-Ty u) (fits_from one.Bool ty.Bool u ty.rolls-Bool h)
  where
    by : (x : Ty-F Ty) → roll-Ty x ≡ u → fits_step one.Bool x ≡ true → u ≡ ty.Bool
    by one.Bool e k = sym e ∙ ty.rolls-Bool
    by _ e k = absurd (cc)

pub fits_from_range : (low high : ℤ) (u : Ty) → fits (ty.Range low high) u ≡ true
    → (u ≡ ty.Number) ⊎ ((from : ℤ) × (to : ℤ) × (u ≡ ty.Range from to))
fits_from_range low high u h =
    by (out-Ty u) (roll-out-Ty u) (fits_from (one.Range low high) (ty.Range low high) u (ty.rolls-Range low high) h)
  where
    by : (x : Ty-F Ty) → roll-Ty x ≡ u → fits_step (one.Range low high) x ≡ true
        → (u ≡ ty.Number) ⊎ ((from : ℤ) × (to : ℤ) × (u ≡ ty.Range from to))
    by one.Number e k = inl (sym e ∙ ty.rolls-Number)
    by (one.Range from to) e k = inr (from, to, sym e ∙ ty.rolls-Range from to)
    by _ e k = absurd (cc)

pub fits_from_number : (u : Ty) → fits ty.Number u ≡ true → u ≡ ty.Number
fits_from_number u h = by (out-Ty u) (roll-out-Ty u) (fits_from one.Number ty.Number u ty.rolls-Number h)
  where
    by : (x : Ty-F Ty) → roll-Ty x ≡ u → fits_step one.Number x ≡ true → u ≡ ty.Number
    by one.Number e k = sym e ∙ ty.rolls-Number
    by _ e k = absurd (cc)

pub fits_from_tuple : (ts : List Ty) (u : Ty) → fits (ty.Tuple ts) u ≡ true
    → (us : List Ty) × (u ≡ ty.Tuple us) × (pointwise fits ts us ≡ true)
fits_from_tuple ts u h =
    by (out-Ty u) (roll-out-Ty u) (fits_from (one.Tuple ts) (ty.Tuple ts) u (ty.rolls-Tuple ts) h)
  where
    by : (x : Ty-F Ty) → roll-Ty x ≡ u → fits_step (one.Tuple (map fits ts)) x ≡ true
        → (us : List Ty) × (u ≡ ty.Tuple us) × (pointwise fits ts us ≡ true)
    by (one.Tuple us) e k =
        (us, sym e ∙ ty.rolls-Tuple us, sym (pointwise-map_first fits (λ part other. part other) ts us) ∙ k)
    by _ e k = absurd (cc)
