-- Induction over types and over values, for proofs in this crate and in those above it. A fact holds of
-- each if it holds of each form, of a tuple under the assumption that it holds of the components.
use Rattle.std.proofs.Common.{ℕ, ℤ, Bool, List, [], ◌∷◌, map, sym, subst}
use Rattle.std.specs.List.{AllByRecursion}
use Rattle.og_frac.specs.Fraction.{Fraction}
use Rattle.og_types.specs.declared.ty.Ty.{Ty}
use Rattle.og_types.specs.declared.ty.Ty.TheOpen.{Ty-F}
use Rattle.og_types.specs.declared.ty.Ty.TheOpen as open_ty
use Rattle.og_types.specs.declared.ty.Ty.TheViews.{roll-Ty}
use Rattle.og_types.specs.declared.ty.Ty.TheFolds.{map-Ty, ind-Ty}
use Rattle.og_types.specs.declared.ty.Ty.TheVariants as ty
use Rattle.og_types.specs.declared.value.Value.{Value}
use Rattle.og_types.specs.declared.value.Value.TheOpen.{Value-F}
use Rattle.og_types.specs.declared.value.Value.TheOpen as open_value
use Rattle.og_types.specs.declared.value.Value.TheViews.{roll-Value}
use Rattle.og_types.specs.declared.value.Value.TheFolds.{map-Value, ind-Value}
use Rattle.og_types.specs.declared.value.Value.TheVariants as value

-- each of the parts beside its proof
proofs_of : {X : Type 0} (P : X → Type 0) (es : List ((x : X) × P x)) → AllByRecursion P (map (λ e. e.0) es)
proofs_of P [] = tt
proofs_of P (e ∷ es) = (e.1, proofs_of P es)

-- a fact of types
pub type_induction : (P : Ty → Type 0) → ((family cases : ℕ) → P (ty.Enum family cases)) → P ty.Bool
    → ((low high : ℤ) → P (ty.Range low high)) → ((parts : List Ty) → AllByRecursion P parts → P (ty.Tuple parts))
    → P ty.Number → (t : Ty) → P t
type_induction P on_enum on_bool on_range on_tuple on_number = ind-Ty P (λ x y is. subst (λ z. P (roll-Ty z)) is (step y))
  where
    step : (y : Ty-F ((t : Ty) × P t)) → P (roll-Ty (map-Ty ((t : Ty) × P t) Ty (λ e. e.0) y))
    step (open_ty.Enum family cases) = subst P (sym (ty.rolls-Enum family cases)) (on_enum family cases)
    step open_ty.Bool = subst P (sym ty.rolls-Bool) on_bool
    step (open_ty.Range low high) = subst P (sym (ty.rolls-Range low high)) (on_range low high)
    step (open_ty.Tuple es) = subst P (sym (ty.rolls-Tuple (map (λ e. e.0) es))) (on_tuple (map (λ e. e.0) es) (proofs_of P es))
    step open_ty.Number = subst P (sym ty.rolls-Number) on_number

-- a fact of values
pub value_induction : (P : Value → Type 0) → ((family index : ℕ) → P (value.Case family index))
    → ((flag : Bool) → P (value.Flag flag)) → ((number : Fraction) → P (value.Number number))
    → ((parts : List Value) → AllByRecursion P parts → P (value.Tuple parts)) → (v : Value) → P v
value_induction P on_case on_flag on_number on_tuple = ind-Value P (λ x y is. subst (λ z. P (roll-Value z)) is (step y))
  where
    step : (y : Value-F ((v : Value) × P v)) → P (roll-Value (map-Value ((v : Value) × P v) Value (λ e. e.0) y))
    step (open_value.Case family index) = subst P (sym (value.rolls-Case family index)) (on_case family index)
    step (open_value.Flag flag) = subst P (sym (value.rolls-Flag flag)) (on_flag flag)
    step (open_value.Number number) = subst P (sym (value.rolls-Number number)) (on_number number)
    step (open_value.Tuple es) =
        subst P (sym (value.rolls-Tuple (map (λ e. e.0) es))) (on_tuple (map (λ e. e.0) es) (proofs_of P es))
