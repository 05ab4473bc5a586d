-- Written expressions: the type of each, with the greatest depth in it, or the first rule that it breaks. `expr_rule` is
-- the rule for one form, whose parts are walks already; parts are walked from left to right.
use Rattle.std.specs.Prelude.{ℕ, ◌+◌, ◌^◌, nat_le, nat_lt, if◌then◌else◌, Bool, false, ◌&&◌, max, List, [], ◌∷◌, ◌++◌, length, replicate, Option, Some, None, Result, Ok, Err, ◌≡◌, ◌≢◌, slice_get}
use Rattle.std.specs.List.{list_all}
use Rattle.og_types.specs.declared.ty.Ty.{Ty}
use Rattle.og_types.specs.declared.ty.Ty.TheVariants as ty
use Rattle.og_types.specs.Ty.{fits, join, is_finite}
use Rattle.og_types.specs.Values.{joint_values_of}
use Rattle.og_expr.specs.Types.{is_word, negated, component}
use Rattle.og_game.specs.Wired.{is_small}
use Rattle.og_syntax.specs.declared.types.TyTree.{TyTree}
use Rattle.og_syntax.specs.declared.expressions.ExprTree.{ExprTree}
use Rattle.og_syntax.specs.declared.expressions.ExprTree.TheOpen.{ExprTree-F}
use Rattle.og_syntax.specs.declared.expressions.ExprTree.TheOpen as forms
use Rattle.og_syntax.specs.declared.expressions.ExprTree.TheViews.{out-ExprTree}
use Rattle.og_syntax.specs.declared.expressions.ExprTree.TheFolds.{fold-ExprTree}
use Rattle.og_syntax.specs.declared.expressions.CompareOp.{CompareOp}
use Rattle.og_syntax.specs.declared.expressions.CompareOp.TheVariants as ops
use Rattle.og_syntax.specs.declared.expressions.SumPart.{SumPart}
use Rattle.og_syntax.specs.declared.expressions.SumPart.TheVariants as sums
use Rattle.og_syntax.specs.declared.expressions.ProductPart.{ProductPart}
use Rattle.og_syntax.specs.declared.expressions.ProductPart.TheVariants as products
use Rattle.og_syntax.specs.declared.expressions.IfArm.{IfArm}
use Rattle.og_syntax.specs.declared.expressions.ResultTree.{ResultTree}
use Rattle.og_syntax.specs.declared.expressions.TableRow.{TableRow}
use Rattle.og_syntax.specs.Places.{place_step}
use Rattle.og_names.specs.Names.{lookup}
use Rattle.og_typing.specs.declared.fault.WireFault.{WireFault}
use Rattle.og_typing.specs.declared.fault.WireFault.TheVariants.{Memory, WrongType, NotFinite, TooManyValues, TooBig}
use Rattle.og_typing.specs.declared.meaning.Meaning.{Meaning}
use Rattle.og_typing.specs.declared.kind.Kind.{Kind}
use Rattle.og_typing.specs.declared.kind.Joined.{Joined}
use Rattle.og_typing.specs.declared.kind.Kinds.{Kinds}
use Rattle.og_typing.specs.Checked.{Checked, ◌>>=◌, ◌>>◌, rule, in_turn}
use Rattle.og_typing.specs.Types.{Table, type_place, are_bounds, type_walk}
use Rattle.og_typing.specs.Values.{new_row, all_taken}
use Rattle.og_typing.specs.Scopes.{Names, name_walk, function_named, call_depth}
use Rattle.og_typing.specs.Levels.{form_with}

-- an expression in a form: where it begins, and its walk at a depth
pub record Part : Type 0 where
  pub at : ℕ
  pub walk : Names → ℕ → Checked Kind

abbrev pub kind : Ty → ℕ → Kind
kind t deep = record { ty = t; deep = deep }

-- ---- parts of a wanted type

-- The part's type goes as the other; the greatest depth so far.
abbrev pub goes : ℕ → Ty → ℕ → Kind → Checked ℕ
goes at wanted deep found = do
  rule (fits found.ty wanted) (WrongType at)
  Ok (max deep found.deep)

abbrev pub fitting : Names → ℕ → Ty → ℕ → Part → Checked ℕ
fitting names depth wanted deep part = do
  found ← part.walk names depth
  goes part.at wanted deep found

abbrev pub all_fitting : Names → ℕ → Ty → ℕ → List Part → Checked ℕ
all_fitting names depth wanted = in_turn (fitting names depth wanted)

-- The part's type goes as the one that is there.
abbrev pub goes_to : ℕ → Option Ty → ℕ → Kind → Checked ℕ
goes_to at None deep found = Err (WrongType at)
goes_to at (Some wanted) deep found = goes at wanted deep found

-- The parts go as the types from the place on.
abbrev pub each_fitting : Names → ℕ → List Ty → ℕ → ℕ → List Part → Checked ℕ
each_fitting names depth types i deep [] = Ok deep
each_fitting names depth types i deep (part ∷ parts) = do
  found ← part.walk names depth
  deeper ← goes_to part.at (slice_get types i) deep found
  each_fitting names depth types (i + 1) deeper parts

-- ---- parts that give one value

abbrev pub join_found : ℕ → Option Ty → Checked Ty
join_found at None = Err (WrongType at)
join_found at (Some t) = Ok t

-- the join with those before
abbrev pub joined_type : ℕ → Option Ty → Ty → Checked Ty
joined_type at None t = Ok t
joined_type at (Some before) t = join_found at (join before t)

abbrev pub joining : ℕ → Joined → Kind → Checked Joined
joining at before found = do
  t ← joined_type at before.ty found.ty
  Ok (record { ty = Some t; deep = max before.deep found.deep })

abbrev pub joined : Names → ℕ → Joined → Part → Checked Joined
joined names depth before part = do
  found ← part.walk names depth
  joining part.at before found

abbrev pub settled : ℕ → Joined → Checked Kind
settled at found = do
  t ← join_found at found.ty
  Ok (kind t found.deep)

-- ---- compositions

abbrev pub compare_walk : Names → ℕ → CompareOp → Part → Part → Checked Kind
compare_walk names depth ops.Equal left right = do
  l ← left.walk names depth
  both ← joined names depth (record { ty = Some l.ty; deep = l.deep }) right
  Ok (kind ty.Bool both.deep)
compare_walk names depth ops.Differs left right = do
  l ← left.walk names depth
  both ← joined names depth (record { ty = Some l.ty; deep = l.deep }) right
  Ok (kind ty.Bool both.deep)
compare_walk names depth _ left right = do
  deep ← all_fitting names depth ty.Number 0 (left ∷ right ∷ [])
  Ok (kind ty.Bool deep)

abbrev pub sum_fitting : Names → ℕ → ℕ → SumPart Part → Checked ℕ
sum_fitting names depth deep (sums.Plus part) = fitting names depth ty.Number deep part
sum_fitting names depth deep (sums.Minus part) = fitting names depth ty.Number deep part

-- A divisor is a number that a text can write, and not 0.
abbrev pub product_fitting : ℕ → Names → ℕ → ℕ → ProductPart Part → Checked ℕ
product_fitting at names depth deep (products.Times part) = fitting names depth ty.Number deep part
product_fitting at names depth deep (products.Over n) = do
  rule (nat_lt 0 n && nat_lt n (2 ^ 63)) (WrongType at)
  Ok deep

abbrev pub negated_kind : ℕ → Kind → Checked Kind
negated_kind at found = do
  t ← join_found at (negated found.ty)
  Ok (kind t found.deep)

-- the component at a place that a text can write
abbrev pub written_component : ℕ → Ty → Option Ty
written_component k t = if nat_lt k (2 ^ 63) then component k t else None

-- a component, a component of it, and so on
abbrev pub component_of : ℕ → Ty → ℕ → Checked Ty
component_of at t k = join_found at (written_component k t)

abbrev pub components : ℕ → Ty → List ℕ → Checked Ty
components at = in_turn (component_of at)

unfoldable pub field_walk : ℕ → Names → ℕ → Part → List ℕ → Checked Kind
field_walk at names depth part path = do
  rule (nat_lt 0 (length path)) (WrongType at)
  rule (nat_le (depth + length path) 49) (TooBig at)
  found ← part.walk names (depth + length path)
  t ← components part.at found.ty path
  Ok (kind t found.deep)

-- one more beside those that were found
abbrev pub with_kind : Kinds → Ty → ℕ → Kinds
with_kind before t deep = record { types = before.types ++ t ∷ []; deep = max before.deep deep }

abbrev pub beside : Names → ℕ → Kinds → Part → Checked Kinds
beside names depth before part = do
  found ← part.walk names depth
  Ok (with_kind before found.ty found.deep)

-- A tuple's type is small.
abbrev pub tuple_kind : ℕ → Kinds → Checked Kind
tuple_kind at found = do
  rule (is_small (ty.Tuple found.types)) (TooBig at)
  Ok (kind (ty.Tuple found.types) found.deep)

-- a condition, and what holds under it
abbrev pub arm_walk : Names → ℕ → Joined → IfArm Part → Checked Joined
arm_walk names depth before arm = do
  deep ← fitting names depth ty.Bool before.deep arm.cond
  joined names depth (record { ty = before.ty; deep = deep }) arm.body

-- ---- tables

-- A key's type fits the written one, which is finite.
abbrev pub key_type : ℕ → TyTree → Table Meaning → Kind → Checked Ty
key_type at written declared found = do
  t ← type_walk written declared
  rule (is_finite t) (NotFinite (type_place written))
  rule (fits found.ty t) (WrongType at)
  Ok t

abbrev pub key_walk : Names → ℕ → Kinds → ResultTree Part → Checked Kinds
key_walk names depth before key = do
  found ← key.expr.walk names depth
  t ← key_type key.expr.at key.ty names.declared found
  Ok (with_kind before t found.deep)

-- what was found of rows: which keys have one, and what the rows give
pub record Rows : Type 0 where
  pub taken : List Bool
  pub found : Joined

abbrev pub rows_from : List Bool → ℕ → Rows
rows_from taken deep = record { taken = taken; found = record { ty = None; deep = deep } }

-- A call answers what the rows give, and leaves the flags.
abbrev pub RowsWalk : Checked Rows → Result Joined WireFault → List Bool → Type 0
RowsWalk walk (Ok found) taken = walk ≡ Ok (record { taken = taken; found = found })
RowsWalk walk (Err fault) taken = fault ≢ Memory → walk ≡ Err fault

abbrev pub row_walk : Names → ℕ → List Ty → Rows → TableRow Part → Checked Rows
row_walk names depth types before row = do
  taken ← new_row names.declared types before.taken row.at row.key
  found ← joined names depth before.found row.body
  Ok (record { taken = taken; found = found })

-- finite types with at most 4,096 joint values
abbrev pub are_keys : List Ty → Bool
are_keys types = list_all is_finite types && nat_le (length (joint_values_of types)) 4096

-- the rows for the keys' joint values, of which there are so many
abbrev pub all_rows : ℕ → Names → ℕ → List Ty → ℕ → ℕ → List (TableRow Part) → Checked Kind
all_rows at names depth types count deep rows = do
  all ← in_turn (row_walk names depth types) (rows_from (replicate count false) deep) rows
  all_taken at all.taken
  settled at all.found

abbrev pub rows_walk : ℕ → Names → ℕ → Kinds → List (TableRow Part) → Checked Kind
rows_walk at names depth keys rows = do
  rule (are_keys keys.types) (TooManyValues at)
  all_rows at names depth keys.types (length (joint_values_of keys.types)) keys.deep rows

unfoldable pub tuple_walk : ℕ → Names → ℕ → List Part → Checked Kind
tuple_walk at names depth parts = do
  rule (nat_le 2 (length parts)) (WrongType at)
  found ← in_turn (beside names (depth + 1)) (record { types = []; deep = depth }) parts
  tuple_kind at found

-- conditions, one or more, with what holds under each
abbrev pub arms_walk : ℕ → Names → ℕ → List (IfArm Part) → Checked Joined
arms_walk at names depth arms = do
  rule (nat_le 1 (length arms)) (WrongType at)
  in_turn (arm_walk names (depth + 1)) (record { ty = None; deep = depth }) arms

unfoldable pub if_walk : ℕ → Names → ℕ → List (IfArm Part) → Part → Checked Kind
if_walk at names depth arms otherwise = do
  branches ← arms_walk at names depth arms
  all ← joined names (depth + 1) branches otherwise
  settled at all

-- keys, one or more
abbrev pub keys_walk : ℕ → Names → ℕ → List (ResultTree Part) → Checked Kinds
keys_walk at names depth keys = do
  rule (nat_le 1 (length keys)) (WrongType at)
  in_turn (key_walk names (depth + 1)) (record { types = []; deep = depth }) keys

unfoldable pub table_walk : ℕ → Names → ℕ → List (ResultTree Part) → List (TableRow Part) → Checked Kind
table_walk at names depth keys rows = do
  found ← keys_walk at names depth keys
  rows_walk at names (depth + 1) found rows

-- ---- the table of rules

unfoldable pub expr_rule : ExprTree-F Part → Names → ℕ → Checked Kind
expr_rule (forms.Number at n) names depth = do
  rule (is_word n) (WrongType at)
  Ok (kind (ty.Range n n) depth)
expr_rule (forms.Flag at flag) names depth = Ok (kind ty.Bool depth)
expr_rule (forms.Name at name) names depth = do
  t ← name_walk at name names
  Ok (kind t depth)
expr_rule (forms.Call at name args) names depth = do
  f ← function_named at (lookup name names.declared)
  below ← call_depth at depth f (length args)
  deep ← each_fitting names below f.params 0 below args
  Ok (kind f.answer deep)
expr_rule (forms.Or at parts) names depth = do
  rule (nat_le 2 (length parts)) (WrongType at)
  deep ← all_fitting names (depth + 1) ty.Bool depth parts
  Ok (kind ty.Bool deep)
expr_rule (forms.And at parts) names depth = do
  rule (nat_le 2 (length parts)) (WrongType at)
  deep ← all_fitting names (depth + 1) ty.Bool depth parts
  Ok (kind ty.Bool deep)
expr_rule (forms.Not at part) names depth = do
  deep ← fitting names (depth + 1) ty.Bool depth part
  Ok (kind ty.Bool deep)
expr_rule (forms.Compare at op left right) names depth = compare_walk names (depth + 1) op left right
expr_rule (forms.Sum at first rest) names depth = do
  rule (nat_lt 0 (length rest)) (WrongType at)
  deep ← fitting names (depth + 1) ty.Number depth first
  all ← in_turn (sum_fitting names (depth + 1)) deep rest
  Ok (kind ty.Number all)
expr_rule (forms.Product at first rest) names depth = do
  rule (nat_lt 0 (length rest)) (WrongType at)
  deep ← fitting names (depth + 1) ty.Number depth first
  all ← in_turn (product_fitting at names (depth + 1)) deep rest
  Ok (kind ty.Number all)
expr_rule (forms.Neg at part) names depth = do
  found ← part.walk names (depth + 1)
  negated_kind part.at found
expr_rule (forms.Field at part path) names depth = field_walk at names depth part path
expr_rule (forms.Tuple at parts) names depth = tuple_walk at names depth parts
expr_rule (forms.If at arms otherwise) names depth = if_walk at names depth arms otherwise
expr_rule (forms.Table at keys rows) names depth = table_walk at names depth keys rows
expr_rule (forms.Ratio at x y otherwise) names depth = do
  deep ← all_fitting names (depth + 1) ty.Number depth (x ∷ y ∷ otherwise ∷ [])
  Ok (kind ty.Number deep)
expr_rule (forms.Min at first second) names depth = do
  deep ← all_fitting names (depth + 1) ty.Number depth (first ∷ second ∷ [])
  Ok (kind ty.Number deep)
expr_rule (forms.Max at first second) names depth = do
  deep ← all_fitting names (depth + 1) ty.Number depth (first ∷ second ∷ [])
  Ok (kind ty.Number deep)
expr_rule (forms.Clamp at lo_at lo hi part) names depth = do
  rule (are_bounds lo hi) (WrongType lo_at)
  deep ← fitting names (depth + 1) ty.Number depth part
  Ok (kind (ty.Range lo hi) deep)

-- An expression that stands too deep isn't looked into.
abbrev pub form_walk : ExprTree-F Part → Names → ℕ → Checked Kind
form_walk form names depth = do
  rule (nat_le depth 48) (TooBig (place_step form))
  expr_rule form names depth

abbrev pub part_of : ExprTree → Part
part_of = fold-ExprTree Part (λ form. record { at = place_step form; walk = form_walk form })

-- the type of an expression that stands at a depth, with the greatest depth in it
abbrev pub expr_walk : ExprTree → Names → ℕ → Checked Kind
expr_walk e = (part_of e).walk

-- the rule for an expression's form alone, without that on its depth
abbrev pub rule_walk : ExprTree → Names → ℕ → Checked Kind
rule_walk e = expr_rule (form_with part_of (out-ExprTree e))
