-- What definitions on types say at each form.
use Rattle.std.proofs.Common.{◌≡◌, ℕ, ℤ, pos, Bool, true, false, List, [], ◌∷◌, map, ap, sym, ◌∙◌}
use Rattle.std.specs.Prelude.{Option, ◌+ℤ◌, ◌&&◌, ◌^◌, nat_lt, unsigned_abs}
use Rattle.og_frac.specs.Fraction.{whole}
use Rattle.std.specs.Option.{option_map}
use Rattle.std.specs.List.{list_all, range_with_len}
use Rattle.std.proofs.lemmas.List.Folds.{list_all-map}
use Rattle.std.specs.Cmp.Lexicographic.{pointwise}
use Rattle.og_types.specs.declared.value.Value.{Value}
use Rattle.og_types.specs.declared.value.Value.TheViews.{out-Value}
use Rattle.og_types.specs.declared.value.Value.TheVariants as value
use Rattle.og_types.specs.declared.ty.Ty.{Ty}
use Rattle.og_types.specs.declared.ty.Ty.TheOpen.{Ty-F}
use Rattle.og_types.specs.declared.ty.Ty.TheOpen as one
use Rattle.og_types.specs.declared.ty.Ty.TheViews.{out-Ty}
use Rattle.og_types.specs.declared.ty.Ty.TheFolds.{fold-Ty, fold-roll-Ty}
use Rattle.og_types.specs.declared.ty.Ty.TheVariants as ty
use Rattle.og_types.specs.Ty.{fits, fits_step, holds, holds_step, is_finite, is_finite_step, bounds_fit, bounds_fit_step, join, join_step, joins}
use Rattle.og_types.specs.Values.{values_of, values_step, joint_values_of, span}
use Rattle.og_types.proofs.Pointwise.{pointwise-map_first}

-- a definition at each form
pub fold_enum : (A : Type 0) (step : Ty-F A → A) (family cases : ℕ) → fold-Ty A step (ty.Enum family cases) ≡ step (one.Enum family cases)
fold_enum A step family cases = ap (fold-Ty A step) (sym (ty.rolls-Enum family cases)) ∙ fold-roll-Ty A step (one.Enum family cases)

pub fold_bool : (A : Type 0) (step : Ty-F A → A) → fold-Ty A step ty.Bool ≡ step one.Bool
fold_bool A step = ap (fold-Ty A step) (sym ty.rolls-Bool) ∙ fold-roll-Ty A step one.Bool

pub fold_range : (A : Type 0) (step : Ty-F A → A) (low high : ℤ) → fold-Ty A step (ty.Range low high) ≡ step (one.Range low high)
fold_range A step low high = ap (fold-Ty A step) (sym (ty.rolls-Range low high)) ∙ fold-roll-Ty A step (one.Range low high)

pub fold_number : (A : Type 0) (step : Ty-F A → A) → fold-Ty A step ty.Number ≡ step one.Number
fold_number A step = ap (fold-Ty A step) (sym ty.rolls-Number) ∙ fold-roll-Ty A step one.Number

fold_tuple : (A : Type 0) (step : Ty-F A → A) (ts : List Ty) → fold-Ty A step (ty.Tuple ts) ≡ step (one.Tuple (map (fold-Ty A step) ts))
fold_tuple A step ts = ap (fold-Ty A step) (sym (ty.rolls-Tuple ts)) ∙ fold-roll-Ty A step (one.Tuple ts)

-- a definition of two types at two tuples
fold_tuples : (A : Type 0) (step : Ty-F (Ty → A) → Ty-F Ty → A) (ts us : List Ty) → fold-Ty (Ty → A) (λ t u. step t (out-Ty u)) (ty.Tuple ts) (ty.Tuple us) ≡ step (one.Tuple (map (fold-Ty (Ty → A) (λ t u. step t (out-Ty u))) ts)) (one.Tuple us)
fold_tuples A step ts us =
    (λ i. fold_tuple (Ty → A) (λ t u. step t (out-Ty u)) ts i (ty.Tuple us)) ∙ ap (step (one.Tuple (map (fold-Ty (Ty → A) (λ t u. step t (out-Ty u))) ts))) (ty.outs-Tuple us)

pub fits_tuples : (ts us : List Ty) → fits (ty.Tuple ts) (ty.Tuple us) ≡ pointwise fits ts us
fits_tuples ts us = fold_tuples Bool fits_step ts us ∙ pointwise-map_first fits (λ part other. part other) ts us

pub holds_tuples : (ts : List Ty) (vs : List Value) → holds (ty.Tuple ts) (value.Tuple vs) ≡ pointwise holds ts vs
holds_tuples ts vs =
    (λ i. fold_tuple (Value → Bool) (λ t v. holds_step t (out-Value v)) ts i (value.Tuple vs)) ∙ ap (holds_step (one.Tuple (map holds ts))) (value.outs-Tuple vs) ∙ pointwise-map_first holds (λ part v. part v) ts vs

pub join_tuples : (ts us : List Ty) → join (ty.Tuple ts) (ty.Tuple us) ≡ option_map ty.Tuple (joins (map join ts) us)
join_tuples ts us = fold_tuples (Option Ty) join_step ts us

pub is_finite_tuple : (ts : List Ty) → is_finite (ty.Tuple ts) ≡ list_all is_finite ts
is_finite_tuple ts = fold_tuple Bool is_finite_step ts ∙ list_all-map (λ part. part) is_finite ts

pub is_finite_bool : is_finite ty.Bool ≡ true
is_finite_bool = fold_bool Bool is_finite_step

pub is_finite_number : is_finite ty.Number ≡ false
is_finite_number = fold_number Bool is_finite_step

pub bounds_fit_enum : (family cases : ℕ) → bounds_fit (ty.Enum family cases) ≡ true
bounds_fit_enum family cases = fold_enum Bool bounds_fit_step family cases

pub bounds_fit_bool : bounds_fit ty.Bool ≡ true
bounds_fit_bool = fold_bool Bool bounds_fit_step

pub bounds_fit_range : (low high : ℤ) → bounds_fit (ty.Range low high) ≡ nat_lt (unsigned_abs low) (2 ^ 63) && nat_lt (unsigned_abs high) (2 ^ 63)
bounds_fit_range low high = fold_range Bool bounds_fit_step low high

pub bounds_fit_number : bounds_fit ty.Number ≡ true
bounds_fit_number = fold_number Bool bounds_fit_step

pub bounds_fit_tuple : (ts : List Ty) → bounds_fit (ty.Tuple ts) ≡ list_all bounds_fit ts
bounds_fit_tuple ts = fold_tuple Bool bounds_fit_step ts ∙ list_all-map (λ part. part) bounds_fit ts

pub values_tuple : (ts : List Ty) → values_of (ty.Tuple ts) ≡ map value.Tuple (joint_values_of ts)
values_tuple ts = fold_tuple (List Value) values_step ts

pub values_enum : (family cases : ℕ) → values_of (ty.Enum family cases) ≡ map (λ index. value.Case family index) (range_with_len 0 cases)
values_enum family cases = fold_enum (List Value) values_step family cases

pub values_bool : values_of ty.Bool ≡ value.Flag false ∷ value.Flag true ∷ []
values_bool = fold_bool (List Value) values_step

pub values_range : (low high : ℤ) → values_of (ty.Range low high) ≡ map (λ k. value.Number (whole (low +ℤ pos k))) (range_with_len 0 (span low high))
values_range low high = fold_range (List Value) values_step low high

pub values_number : values_of ty.Number ≡ []
values_number = fold_number (List Value) values_step

pub is_finite_enum : (family cases : ℕ) → is_finite (ty.Enum family cases) ≡ true
is_finite_enum family cases = fold_enum Bool is_finite_step family cases

pub is_finite_range : (low high : ℤ) → is_finite (ty.Range low high) ≡ true
is_finite_range low high = fold_range Bool is_finite_step low high
