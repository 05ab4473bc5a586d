-- The typed trees of written expressions. `tree_rule` is the rule for one form, whose parts have their trees already: there
-- is a tree where each part has one and the form over them is typed.
use Rattle.std.specs.Prelude.{ℕ, ◌+◌, ◌^◌, ◌==◌, nat_lt, Bool, true, false, if◌then◌else◌, List, [], ◌∷◌, ◌++◌, map, Option, Some, None, is_some, slice_get}
use Rattle.std.specs.List.{list_any}
use Rattle.og_types.specs.declared.ty.Ty.{Ty}
use Rattle.og_types.specs.Values.{place_of}
use Rattle.og_expr.specs.declared.node.NodeOf.{NodeOf}
use Rattle.og_expr.specs.declared.node.NodeOf.TheVariants as nodes
use Rattle.og_expr.specs.declared.node.Addend.{Addend}
use Rattle.og_expr.specs.declared.node.Addend.TheVariants as addends
use Rattle.og_expr.specs.declared.node.Factor.{Factor}
use Rattle.og_expr.specs.declared.node.Factor.TheVariants as factors
use Rattle.og_expr.specs.declared.node.Choice.{Choice}
use Rattle.og_expr.specs.declared.node.Key.{Key}
use Rattle.og_expr.specs.declared.node.Term.{Term}
use Rattle.og_expr.specs.declared.node.Test.{Test}
use Rattle.og_expr.specs.declared.node.Test.TheVariants as tests
use Rattle.og_expr.specs.Terms.{term_of}
use Rattle.og_expr.specs.Types.{type_of, goes_as}
use Rattle.og_expr.specs.Variables.{numbers_of, all_variables}
use Rattle.og_expr.specs.Replaced.{replaced, tree_at}
use Rattle.og_game.specs.declared.scope.Variable.{Variable}
use Rattle.og_syntax.specs.declared.expressions.ExprTree.{ExprTree}
use Rattle.og_syntax.specs.declared.expressions.ExprTree.TheOpen.{ExprTree-F}
use Rattle.og_syntax.specs.declared.expressions.ExprTree.TheOpen as forms
use Rattle.og_syntax.specs.declared.expressions.ExprTree.TheFolds.{fold-ExprTree}
use Rattle.og_syntax.specs.declared.expressions.CompareOp.{CompareOp}
use Rattle.og_syntax.specs.declared.expressions.CompareOp.TheVariants as ops
use Rattle.og_syntax.specs.declared.expressions.SumPart.{SumPart}
use Rattle.og_syntax.specs.declared.expressions.SumPart.TheVariants as sums
use Rattle.og_syntax.specs.declared.expressions.ProductPart.{ProductPart}
use Rattle.og_syntax.specs.declared.expressions.ProductPart.TheVariants as products
use Rattle.og_syntax.specs.declared.expressions.IfArm.{IfArm}
use Rattle.og_syntax.specs.declared.expressions.ResultTree.{ResultTree}
use Rattle.og_syntax.specs.declared.expressions.TableRow.{TableRow}
use Rattle.og_names.specs.Names.{lookup, place}
use Rattle.og_typing.specs.declared.meaning.Meaning.{Meaning}
use Rattle.og_typing.specs.declared.meaning.Meaning.TheVariants as meanings
use Rattle.og_typing.specs.Types.{Table, type_walk}
use Rattle.og_typing.specs.Values.{key_walk}
use Rattle.og_typing.specs.Expressions.{are_keys}
use Rattle.og_inlining.specs.Steps.{◌>>=◌, ◌>>◌, provided, in_turn, each_of, given_by}
use Rattle.og_inlining.specs.Seen.{Seen}

-- the tree of an expression, where it has one
abbrev pub Tree : Type 0
Tree = Seen → Option Term

-- There is a tree, and its type fits.
abbrev pub tree_goes : Ty → Option Term → Bool
tree_goes t None = false
tree_goes t (Some e) = goes_as t (type_of e)

-- the form as a tree, where it is typed
unfoldable pub built : NodeOf Term → Option Term
built n = if is_some (type_of (term_of n)) then Some (term_of n) else None

-- ---- names

-- A variable's number is its place.
abbrev pub variable_tree : ℕ → Option Variable → Option Term
variable_tree number None = None
variable_tree number (Some v) = if nat_lt number (2 ^ 32) then built (nodes.Var number v.ty) else None

abbrev pub case_tree : Option Meaning → Option Term
case_tree (Some (meanings.Case family cases index)) = built (nodes.Case family cases index)
case_tree (Some _) = None
case_tree None = None

-- what is known of a name as a variable, as a parameter of the game, and as a declared name
abbrev pub leaf_tree : Option ℕ → Option Variable → Option Term → Option Meaning → Option Term
leaf_tree (Some number) v tree meaning = variable_tree number v
leaf_tree None v (Some tree) meaning = Some tree
leaf_tree None v None meaning = case_tree meaning

unfoldable pub named_tree : List ℕ → Seen → Option Term
named_tree name seen =
    leaf_tree (place name seen.variables) (lookup name seen.variables) (lookup name seen.given) (lookup name seen.declared)

-- ---- calls

abbrev pub occurs : List ℕ → ℕ → Bool
occurs numbers k = list_any (λ n. n == k) numbers

-- An argument in whose place the body has no parameter isn't looked at; any leaf stands for it.
abbrev pub argument : Seen → Bool → Tree → Option Term
argument seen true arg = arg seen
argument seen false arg = built (nodes.Flag false)

-- the trees of the arguments from the number on, behind those that were found, where the test tells which are used
abbrev pub arguments : Seen → (ℕ → Bool) → ℕ → List Term → List Tree → Option (List Term)
arguments seen used k found [] = Some found
arguments seen used k found (arg ∷ args) = do
  tree ← argument seen (used k) arg
  arguments seen used (k + 1) (found ++ tree ∷ []) args

-- There is a tree for the variable, and its type fits the variable's.
abbrev pub stands_for : List Term → ℕ → Ty → Bool
stands_for trees number t = tree_goes t (slice_get trees number)

-- the body with the trees in the place of its variables, where there is one that fits for each
abbrev pub placed : Term → List Term → Option Term
placed body trees = do
  provided (all_variables (stands_for trees) body)
  Some (replaced (tree_at trees) body)

abbrev pub body_with : Seen → List Tree → Option Term → Option Term
body_with seen args None = None
body_with seen args (Some body) = do
  trees ← arguments seen (occurs (numbers_of body)) 0 [] args
  placed body trees

-- the body of the function with the name, with the arguments in the place of its parameters
unfoldable pub call_tree : List ℕ → List Tree → Seen → Option Term
call_tree name args seen = body_with seen args (lookup name seen.bodies)

-- ---- parts

abbrev pub part_tree : Seen → Tree → Option Term
part_tree seen part = part seen

abbrev pub addend_tree : Seen → SumPart Tree → Option (Addend Term)
addend_tree seen (sums.Plus part) = do
  e ← part seen
  Some (addends.Plus e)
addend_tree seen (sums.Minus part) = do
  e ← part seen
  Some (addends.Minus e)

abbrev pub factor_tree : Seen → ProductPart Tree → Option (Factor Term)
factor_tree seen (products.Times part) = do
  e ← part seen
  Some (factors.Times e)
factor_tree seen (products.Over n) = Some (factors.Over n)

abbrev pub arm_tree : Seen → IfArm Tree → Option (Choice Term)
arm_tree seen arm = do
  c ← arm.cond seen
  e ← arm.body seen
  Some (record { cond = c; body = e })

abbrev pub test_of : CompareOp → Test
test_of ops.Equal = tests.Equal
test_of ops.Differs = tests.Differs
test_of ops.Less = tests.Less
test_of ops.AtMost = tests.AtMost
test_of ops.Greater = tests.Greater
test_of ops.AtLeast = tests.AtLeast

-- a component of the tree, a component of it, and so on
abbrev pub fields : Term → List ℕ → Option Term
fields = in_turn (λ e k. built (nodes.Field e k))

-- ---- tables

abbrev pub key_tree : Seen → ResultTree Tree → Option (Key Term)
key_tree seen key = do
  e ← key.expr seen
  t ← given_by (type_walk key.ty seen.declared)
  Some (record { expr = e; ty = t })

abbrev pub types_of : List (Key Term) → List Ty
types_of = map (λ key. key.ty)

abbrev pub rank_in : {B : Type 0} → Table Meaning → List Ty → TableRow B → Option ℕ
rank_in declared types row = given_by (key_walk declared types row.at row.key)

-- the joint ranks of the rows' keys
unfoldable pub ranks_of : {B : Type 0} → Table Meaning → List Ty → List (TableRow B) → Option (List ℕ)
ranks_of declared types rows = do
  provided (are_keys types)
  each_of (rank_in declared types) [] rows

-- where the rank first stands
abbrev pub where_is : ℕ → List ℕ → Option ℕ
where_is rank = place_of (λ one. one == rank)

-- the places of the ranks from the number on, as many as the list is long, behind those that were found
abbrev pub places : List ℕ → ℕ → List ℕ → List ℕ → Option (List ℕ)
places ranks k found [] = Some found
places ranks k found (_ ∷ more) = do
  at ← where_is k ranks
  places ranks (k + 1) (found ++ at ∷ []) more

-- the places of the rows in the order of their keys' joint ranks
abbrev pub order_of : {B : Type 0} → Table Meaning → List Ty → List (TableRow B) → Option (List ℕ)
order_of declared types rows = do
  ranks ← ranks_of declared types rows
  places ranks 0 [] ranks

abbrev pub row_tree : Seen → Option (TableRow Tree) → Option Term
row_tree seen None = None
row_tree seen (Some row) = row.body seen

unfoldable pub row_there : Seen → List (TableRow Tree) → ℕ → Option Term
row_there seen rows at = row_tree seen (slice_get rows at)

-- the table with the keys, whose rows are in the order of their joint ranks
unfoldable pub rows_tree : Seen → List (Key Term) → List (TableRow Tree) → Option Term
rows_tree seen keys rows = do
  order ← order_of seen.declared (types_of keys) rows
  bodies ← each_of (row_there seen rows) [] order
  built (nodes.Table keys bodies)

-- ---- the table of rules

unfoldable pub tree_rule : ExprTree-F Tree → Tree
tree_rule (forms.Number at n) seen = built (nodes.Literal n)
tree_rule (forms.Flag at flag) seen = built (nodes.Flag flag)
tree_rule (forms.Name at name) seen = named_tree name seen
tree_rule (forms.Call at name args) seen = call_tree name args seen
tree_rule (forms.Or at parts) seen = do
  es ← each_of (part_tree seen) [] parts
  built (nodes.Or es)
tree_rule (forms.And at parts) seen = do
  es ← each_of (part_tree seen) [] parts
  built (nodes.And es)
tree_rule (forms.Not at part) seen = do
  e ← part seen
  built (nodes.Not e)
tree_rule (forms.Compare at op left right) seen = do
  l ← left seen
  r ← right seen
  built (nodes.Compare (test_of op) l r)
tree_rule (forms.Sum at first rest) seen = do
  e ← first seen
  more ← each_of (addend_tree seen) [] rest
  built (nodes.Sum e more)
tree_rule (forms.Product at first rest) seen = do
  e ← first seen
  more ← each_of (factor_tree seen) [] rest
  built (nodes.Product e more)
tree_rule (forms.Neg at part) seen = do
  e ← part seen
  built (nodes.Neg e)
tree_rule (forms.Field at part path) seen = do
  e ← part seen
  fields e path
tree_rule (forms.Tuple at parts) seen = do
  es ← each_of (part_tree seen) [] parts
  built (nodes.Tuple es)
tree_rule (forms.If at arms otherwise) seen = do
  choices ← each_of (arm_tree seen) [] arms
  e ← otherwise seen
  built (nodes.If choices e)
tree_rule (forms.Table at keys rows) seen = do
  keyed ← each_of (key_tree seen) [] keys
  rows_tree seen keyed rows
tree_rule (forms.Ratio at x y otherwise) seen = do
  a ← x seen
  b ← y seen
  c ← otherwise seen
  built (nodes.Ratio a b c)
tree_rule (forms.Min at first second) seen = do
  a ← first seen
  b ← second seen
  built (nodes.Min a b)
tree_rule (forms.Max at first second) seen = do
  a ← first seen
  b ← second seen
  built (nodes.Max a b)
tree_rule (forms.Clamp at lo_at lo hi part) seen = do
  e ← part seen
  built (nodes.Clamp lo hi e)

-- the tree that an expression stands for
abbrev pub tree_in : ExprTree → Tree
tree_in = fold-ExprTree Tree tree_rule
