-- Written types: the type that each stands for, or the first rule that it breaks.
use Rattle.std.specs.Prelude.{ℕ, nat_le, Bool, ◌&&◌, ℤ, int_le, List, [], ◌∷◌, ◌++◌, length, Option, Some, None, Ok, Err}
use Rattle.og_types.specs.declared.ty.Ty.{Ty}
use Rattle.og_types.specs.declared.ty.Ty.TheVariants as ty
use Rattle.og_expr.specs.Types.{is_word}
use Rattle.og_game.specs.Wired.{is_small, has_few_values}
use Rattle.og_syntax.specs.declared.types.TyTree.{TyTree}
use Rattle.og_syntax.specs.declared.types.TyTree.TheOpen.{TyTree-F}
use Rattle.og_syntax.specs.declared.types.TyTree.TheOpen as one
use Rattle.og_syntax.specs.declared.types.TyTree.TheViews.{out-TyTree}
use Rattle.og_syntax.specs.declared.types.TyTree.TheFolds.{fold-TyTree}
use Rattle.og_names.specs.Names.{lookup}
use Rattle.og_typing.specs.declared.fault.WireFault.TheVariants.{Unknown, WrongType, TooManyValues, TooBig}
use Rattle.og_typing.specs.declared.meaning.Meaning.{Meaning}
use Rattle.og_typing.specs.declared.meaning.Meaning.TheVariants as meanings
use Rattle.og_typing.specs.Checked.{Checked, ◌>>=◌, ◌>>◌, rule, in_turn}

-- names with what they stand for, in the order in which they came
abbrev pub Table : Type 0 → Type 0
Table A = List (List ℕ × A)

abbrev pub type_place_step : {T : Type 0} → TyTree-F T → ℕ
type_place_step (one.Name at name) = at
type_place_step (one.Bool at) = at
type_place_step (one.Number at) = at
type_place_step (one.Range at low high) = at
type_place_step (one.Tuple at parts) = at

-- where a type begins
abbrev pub type_place : TyTree → ℕ
type_place t = type_place_step (out-TyTree t)

-- the type that a name stands for
abbrev pub type_named : ℕ → Option Meaning → Checked Ty
type_named at (Some (meanings.Type t)) = Ok t
type_named at (Some _) = Err (Unknown at)
type_named at None = Err (Unknown at)

-- whole numbers that a text can write, the first no greater than the second
abbrev pub are_bounds : ℤ → ℤ → Bool
are_bounds low high = int_le low high && (is_word low && is_word high)

-- A tuple that is too large isn't counted.
abbrev pub sized : ℕ → Ty → Checked Ty
sized at t = do
  rule (is_small t) (TooBig at)
  rule (has_few_values t) (TooManyValues at)
  Ok t

-- one type more
abbrev pub with_type : Table Meaning → List Ty → (Table Meaning → Checked Ty) → Checked (List Ty)
with_type declared types part = do
  t ← part declared
  Ok (types ++ t ∷ [])

-- the types that parts stand for
abbrev pub all_types : Table Meaning → List Ty → List (Table Meaning → Checked Ty) → Checked (List Ty)
all_types declared = in_turn (with_type declared)

abbrev pub tuple_type : ℕ → List Ty → Checked Ty
tuple_type at types = do
  rule (nat_le 2 (length types)) (WrongType at)
  sized at (ty.Tuple types)

abbrev pub type_rule : TyTree-F (Table Meaning → Checked Ty) → Table Meaning → Checked Ty
type_rule (one.Name at name) declared = type_named at (lookup name declared)
type_rule (one.Bool at) declared = Ok ty.Bool
type_rule (one.Number at) declared = Ok ty.Number
type_rule (one.Range at low high) declared = do
  rule (are_bounds low high) (WrongType at)
  sized at (ty.Range low high)
type_rule (one.Tuple at parts) declared = do
  types ← all_types declared [] parts
  tuple_type at types

-- the type that a written type stands for
abbrev pub type_walk : TyTree → Table Meaning → Checked Ty
type_walk = fold-TyTree (Table Meaning → Checked Ty) type_rule

-- those of several written types, in order
abbrev pub types_walk : Table Meaning → List Ty → List TyTree → Checked (List Ty)
types_walk declared = in_turn (λ types t. with_type declared types (type_walk t))
