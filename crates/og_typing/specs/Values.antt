-- Written values: the value that each stands for, or the first rule that it breaks, and keys of rows.
use Rattle.std.specs.Prelude.{ℕ, ◌+◌, ◌==◌, Bool, true, not, List, [], ◌∷◌, ◌++◌, length, Option, Some, None, Ok, Err, slice_get, slice_set}
use Rattle.std.specs.List.{list_all}
use Rattle.og_frac.specs.Fraction.{whole}
use Rattle.og_types.specs.declared.ty.Ty.{Ty}
use Rattle.og_types.specs.declared.value.Value.{Value}
use Rattle.og_types.specs.declared.value.Value.TheVariants as value
use Rattle.og_types.specs.Ty.{holds}
use Rattle.og_types.specs.Values.{joint_rank_of}
use Rattle.og_expr.specs.Types.{is_word}
use Rattle.og_syntax.specs.declared.values.ValueTree.{ValueTree}
use Rattle.og_syntax.specs.declared.values.ValueTree.TheOpen.{ValueTree-F}
use Rattle.og_syntax.specs.declared.values.ValueTree.TheOpen as one
use Rattle.og_syntax.specs.declared.values.ValueTree.TheViews.{out-ValueTree}
use Rattle.og_syntax.specs.declared.values.ValueTree.TheFolds.{fold-ValueTree}
use Rattle.og_names.specs.Names.{lookup}
use Rattle.og_typing.specs.declared.fault.WireFault.TheVariants.{Unknown, WrongType, WrongCount, RowTwice, MissingRow}
use Rattle.og_typing.specs.declared.meaning.Meaning.{Meaning}
use Rattle.og_typing.specs.declared.meaning.Meaning.TheVariants as meanings
use Rattle.og_typing.specs.Checked.{Checked, ◌>>=◌, ◌>>◌, rule, in_turn}
use Rattle.og_typing.specs.Types.{Table}

abbrev pub value_place_step : {V : Type 0} → ValueTree-F V → ℕ
value_place_step (one.Name at name) = at
value_place_step (one.Flag at flag) = at
value_place_step (one.Number at n) = at
value_place_step (one.Tuple at parts) = at

-- where a value begins
abbrev pub value_place : ValueTree → ℕ
value_place v = value_place_step (out-ValueTree v)

-- the case that a name stands for
abbrev pub case_named : ℕ → Option Meaning → Checked Value
case_named at (Some (meanings.Case family cases index)) = Ok (value.Case family index)
case_named at (Some _) = Err (Unknown at)
case_named at None = Err (Unknown at)

-- one value more
abbrev pub with_value : Table Meaning → List Value → (Table Meaning → Checked Value) → Checked (List Value)
with_value declared values part = do
  v ← part declared
  Ok (values ++ v ∷ [])

abbrev pub meant_rule : ValueTree-F (Table Meaning → Checked Value) → Table Meaning → Checked Value
meant_rule (one.Name at name) declared = case_named at (lookup name declared)
meant_rule (one.Flag at flag) declared = Ok (value.Flag flag)
meant_rule (one.Number at n) declared = do
  rule (is_word n) (WrongType at)
  Ok (value.Number (whole n))
meant_rule (one.Tuple at parts) declared = do
  values ← in_turn (with_value declared) [] parts
  Ok (value.Tuple values)

-- the value that a written value stands for, of whatever type
abbrev pub meant : ValueTree → Table Meaning → Checked Value
meant = fold-ValueTree (Table Meaning → Checked Value) meant_rule

-- those of several written values, in order
abbrev pub meant_all : Table Meaning → List Value → List ValueTree → Checked (List Value)
meant_all declared = in_turn (λ values v. with_value declared values (meant v))

-- the value, where it is of the type
abbrev pub value_walk : Table Meaning → Ty → ValueTree → Checked Value
value_walk declared t v = do
  found ← meant v declared
  rule (holds t found) (WrongType (value_place v))
  Ok found

-- the value, where there is a type and it is of it
abbrev pub value_of : Table Meaning → Option Ty → ValueTree → Checked Value
value_of declared None v = Err (WrongType (value_place v))
value_of declared (Some t) v = value_walk declared t v

-- values of the types from the place on, behind those that were found
abbrev pub values_from : Table Meaning → List Ty → ℕ → List Value → List ValueTree → Checked (List Value)
values_from declared types i found [] = Ok found
values_from declared types i found (v ∷ vs) = do
  next ← value_of declared (slice_get types i) v
  values_from declared types (i + 1) (found ++ next ∷ []) vs

abbrev pub rank_found : ℕ → Option ℕ → Checked ℕ
rank_found at None = Err (WrongType at)
rank_found at (Some rank) = Ok rank

-- the joint rank of a key: one value for each of the types
abbrev pub key_walk : Table Meaning → List Ty → ℕ → List ValueTree → Checked ℕ
key_walk declared types at key = do
  rule (length key == length types) (WrongCount at)
  values ← values_from declared types 0 [] key
  rank_found at (joint_rank_of types values)

abbrev pub is_taken : Option Bool → Bool
is_taken None = true
is_taken (Some taken) = taken

-- The rank wasn't there before; the flags tell of each rank whether it was.
abbrev pub row_taken : ℕ → List Bool → ℕ → Checked (List Bool)
row_taken at taken rank = do
  rule (not (is_taken (slice_get taken rank))) (RowTwice at)
  Ok (slice_set taken rank true)

-- the flags behind one row more
abbrev pub new_row : Table Meaning → List Ty → List Bool → ℕ → List ValueTree → Checked (List Bool)
new_row declared types taken at key = do
  rank ← key_walk declared types at key
  row_taken at taken rank

-- Each rank was there.
abbrev pub all_taken : ℕ → List Bool → Checked (Unit {0})
all_taken at taken = rule (list_all (λ flag. flag) taken) (MissingRow at)
