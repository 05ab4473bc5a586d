-- The type of an expression. `type_rule` is the rule for one form, whose parts have their types already, or none.
use Rattle.std.specs.Prelude.{ℕ, ◌^◌, ◌==◌, nat_lt, nat_le, Bool, true, false, ◌&&◌, if◌then◌else◌, ℤ, pos, ◌-ℤ◌, int_le, unsigned_abs, List, [], ◌∷◌, ◌++◌, map, length, slice_get, Option, Some, None, is_some, option_and_then}
use Rattle.std.specs.List.{list_all}
use Rattle.std.specs.Option.{option_map}
use Rattle.og_types.specs.declared.ty.Ty.{Ty}
use Rattle.og_types.specs.declared.ty.Ty.TheOpen as one
use Rattle.og_types.specs.declared.ty.Ty.TheViews.{out-Ty}
use Rattle.og_types.specs.declared.ty.Ty.TheVariants as ty
use Rattle.og_types.specs.Ty.{fits, join, is_finite, bounds_fit}
use Rattle.og_types.specs.Values.{joint_values_of}
use Rattle.og_expr.specs.declared.node.NodeOf.{NodeOf}
use Rattle.og_expr.specs.declared.node.NodeOf.TheVariants as nodes
use Rattle.og_expr.specs.declared.node.Addend.{Addend}
use Rattle.og_expr.specs.declared.node.Addend.TheVariants as addends
use Rattle.og_expr.specs.declared.node.Factor.{Factor}
use Rattle.og_expr.specs.declared.node.Factor.TheVariants as factors
use Rattle.og_expr.specs.declared.node.Key.{Key}
use Rattle.og_expr.specs.declared.node.Term.{Term}
use Rattle.og_expr.specs.declared.node.Term.TheFolds.{fold-Term}
use Rattle.og_expr.specs.declared.node.Test.{Test}
use Rattle.og_expr.specs.declared.node.Test.TheVariants as tests

-- the type, where the test holds
abbrev pub typed_if : Bool → Ty → Option Ty
typed_if b t = if b then Some t else None

-- There is a type, and it fits.
abbrev pub goes_as : Ty → Option Ty → Bool
goes_as into None = false
goes_as into (Some t) = fits t into

-- below 2^63 in size
abbrev pub is_word : ℤ → Bool
is_word n = nat_lt (unsigned_abs n) (2 ^ 63)

-- the join of two types, where both are there
abbrev pub join_both : Option Ty → Option Ty → Option Ty
join_both None u = None
join_both (Some t) None = None
join_both (Some t) (Some u) = join t u

-- the join with one type after another
abbrev pub join_onto : Option Ty → List (Option Ty) → Option Ty
join_onto t [] = t
join_onto t (u ∷ us) = join_onto (join_both t u) us

-- of one type or more
abbrev pub join_all : List (Option Ty) → Option Ty
join_all [] = None
join_all (t ∷ ts) = join_onto t ts

-- all, where each is there
abbrev pub each_of : {A : Type 0} → List (Option A) → Option (List A)
each_of [] = Some []
each_of (o ∷ os) = option_and_then (λ a. option_map (λ as'. a ∷ as') (each_of os)) o

-- `==` and `!=`, which compare values of any types that have a join; the others compare numbers
abbrev pub is_equality : Test → Bool
is_equality tests.Equal = true
is_equality tests.Differs = true
is_equality _ = false

abbrev pub compares : Test → Option Ty → Option Ty → Bool
compares test t u = if is_equality test then is_some (join_both t u) else (goes_as ty.Number t && goes_as ty.Number u)

abbrev pub addend_fits : Addend (Option Ty) → Bool
addend_fits (addends.Plus t) = goes_as ty.Number t
addend_fits (addends.Minus t) = goes_as ty.Number t

abbrev pub factor_fits : Factor (Option Ty) → Bool
factor_fits (factors.Times t) = goes_as ty.Number t
factor_fits (factors.Over d) = nat_lt 0 d && nat_lt d (2 ^ 63)

-- the type of the opposite numbers; the bounds of a range are always words
abbrev pub negated : Ty → Option Ty
negated t =
    elim (out-Ty t) [
      | one.Range low high ↦ typed_if (is_word low && is_word high) (ty.Range (pos 0 -ℤ high) (pos 0 -ℤ low))
      | one.Number ↦ Some ty.Number
      | _ ↦ None
    ]

-- the type of a tuple's component
abbrev pub component : ℕ → Ty → Option Ty
component k t =
    elim (out-Ty t) [
      | one.Tuple ts ↦ slice_get ts k
      | _ ↦ None
    ]

-- A key's type fits the one that it is looked up in, and that is finite.
abbrev pub key_fits : Key (Option Ty) → Bool
key_fits key = goes_as key.ty key.expr && (is_finite key.ty && bounds_fit key.ty)

-- There is one row for each list of values that the keys can have, and these are at most 4,096.
abbrev pub has_rows : List Ty → ℕ → Bool
has_rows ts rows = (rows == length (joint_values_of ts)) && nat_le rows 4096

-- ---- the table of type rules

abbrev pub type_rule : NodeOf (Option Ty) → Option Ty
type_rule (nodes.Literal n) = typed_if (is_word n) (ty.Range n n)
type_rule (nodes.Flag flag) = Some ty.Bool
type_rule (nodes.Case family cases index) = typed_if (nat_lt index cases) (ty.Enum family cases)
type_rule (nodes.Var number t) = typed_if (bounds_fit t) t
type_rule (nodes.Or ts) = typed_if (nat_le 2 (length ts) && list_all (goes_as ty.Bool) ts) ty.Bool
type_rule (nodes.And ts) = typed_if (nat_le 2 (length ts) && list_all (goes_as ty.Bool) ts) ty.Bool
type_rule (nodes.Not t) = typed_if (goes_as ty.Bool t) ty.Bool
type_rule (nodes.Compare test t u) = typed_if (compares test t u) ty.Bool
type_rule (nodes.Sum t more) = typed_if (goes_as ty.Number t && (nat_lt 0 (length more) && list_all addend_fits more)) ty.Number
type_rule (nodes.Product t more) = typed_if (goes_as ty.Number t && (nat_lt 0 (length more) && list_all factor_fits more)) ty.Number
type_rule (nodes.Neg t) = option_and_then negated t
type_rule (nodes.Field t k) = if nat_lt k (2 ^ 63) then option_and_then (component k) t else None
type_rule (nodes.Tuple ts) = if nat_le 2 (length ts) then option_map ty.Tuple (each_of ts) else None
type_rule (nodes.If choices t) =
    if nat_lt 0 (length choices) && list_all (λ c. goes_as ty.Bool c.cond) choices
    then join_all (map (λ c. c.body) choices ++ t ∷ []) else None
type_rule (nodes.Table keys rows) =
    if nat_lt 0 (length keys) && (list_all key_fits keys && has_rows (map (λ key. key.ty) keys) (length rows))
    then join_all rows else None
type_rule (nodes.Ratio x y z) = typed_if (goes_as ty.Number x && (goes_as ty.Number y && goes_as ty.Number z)) ty.Number
type_rule (nodes.Min t u) = typed_if (goes_as ty.Number t && goes_as ty.Number u) ty.Number
type_rule (nodes.Max t u) = typed_if (goes_as ty.Number t && goes_as ty.Number u) ty.Number
type_rule (nodes.Clamp low high t) =
    typed_if ((is_word low && is_word high) && (int_le low high && goes_as ty.Number t)) (ty.Range low high)

-- the type of an expression, where it has one
abbrev pub type_of : Term → Option Ty
type_of = fold-Term (Option Ty) (λ level. type_rule level.node)
