-- How many nodes an expression has once its calls are replaced by the functions' bodies, from how many each function keeps
-- of its own body. Sums stand still at 2^32 - 1.
use Rattle.std.specs.Prelude.{ℕ, ◌+◌, ◌*◌, if◌then◌else◌, List, [], ◌∷◌, length, Option, Some, None, slice_get}
use Rattle.og_expr.specs.Counts.{capped}
use Rattle.og_syntax.specs.declared.expressions.ExprTree.{ExprTree}
use Rattle.og_syntax.specs.declared.expressions.ExprTree.TheOpen.{ExprTree-F}
use Rattle.og_syntax.specs.declared.expressions.ExprTree.TheOpen as forms
use Rattle.og_syntax.specs.declared.expressions.ExprTree.TheFolds.{fold-ExprTree}
use Rattle.og_syntax.specs.declared.expressions.SumPart.{SumPart}
use Rattle.og_syntax.specs.declared.expressions.SumPart.TheVariants as sums
use Rattle.og_syntax.specs.declared.expressions.ProductPart.{ProductPart}
use Rattle.og_syntax.specs.declared.expressions.ProductPart.TheVariants as products
use Rattle.og_syntax.specs.declared.expressions.IfArm.{IfArm}
use Rattle.og_syntax.specs.declared.expressions.ResultTree.{ResultTree}
use Rattle.og_syntax.specs.declared.expressions.TableRow.{TableRow}
use Rattle.og_names.specs.Names.{lookup, has_name}
use Rattle.og_typing.specs.declared.meaning.Meaning.{Meaning}
use Rattle.og_typing.specs.declared.meaning.Meaning.TheVariants as meanings
use Rattle.og_typing.specs.Scopes.{Names}

abbrev pub plus : ℕ → ℕ → ℕ
plus m n = capped (m + n)

abbrev pub times : ℕ → ℕ → ℕ
times m n = capped (m * n)

-- a count of nodes, by the names that are seen
abbrev pub Count : Type 0
Count = Names → ℕ

-- with those of one part after another
abbrev pub with_parts : {P : Type 0} → (P → ℕ) → ℕ → List P → ℕ
with_parts count found [] = found
with_parts count found (part ∷ parts) = with_parts count (plus found (count part)) parts

abbrev pub sum_count : Names → SumPart Count → ℕ
sum_count names (sums.Plus count) = count names
sum_count names (sums.Minus count) = count names

-- A divisor is no node.
abbrev pub product_count : Names → ProductPart Count → ℕ
product_count names (products.Times count) = count names
product_count names (products.Over n) = 0

abbrev pub arm_count : Names → IfArm Count → ℕ
arm_count names arm = plus (arm.cond names) (arm.body names)

abbrev pub key_count : Names → ResultTree Count → ℕ
key_count names key = key.expr names

-- Each value of a table's key is one node.
abbrev pub row_count : Names → TableRow Count → ℕ
row_count names row = plus (capped (length row.key)) (row.body names)

abbrev pub used : Option ℕ → ℕ
used None = 0
used (Some n) = n

-- with the arguments from the place on, each as often as it is used
abbrev pub with_arguments : Names → List ℕ → ℕ → ℕ → List Count → ℕ
with_arguments names uses i found [] = found
with_arguments names uses i found (count ∷ counts) =
    with_arguments names uses (i + 1) (plus found (times (used (slice_get uses i)) (count names))) counts

-- the body in the place of the call
abbrev pub call_count : Names → Option Meaning → List Count → ℕ
call_count names (Some (meanings.Function f)) counts = with_arguments names f.uses 0 f.own counts
call_count names (Some _) counts = 1
call_count names None counts = 1

-- Each variable counts as so many nodes.
unfoldable pub count_rule : ℕ → ExprTree-F Count → Count
count_rule each (forms.Number at n) names = 1
count_rule each (forms.Flag at flag) names = 1
count_rule each (forms.Name at name) names = if has_name name names.variables then each else 1
count_rule each (forms.Call at name args) names = call_count names (lookup name names.declared) args
count_rule each (forms.Or at parts) names = with_parts (λ count. count names) 1 parts
count_rule each (forms.And at parts) names = with_parts (λ count. count names) 1 parts
count_rule each (forms.Not at part) names = plus 1 (part names)
count_rule each (forms.Compare at op left right) names = plus (plus 1 (left names)) (right names)
count_rule each (forms.Sum at first rest) names = with_parts (sum_count names) (plus 1 (first names)) rest
count_rule each (forms.Product at first rest) names = with_parts (product_count names) (plus 1 (first names)) rest
count_rule each (forms.Neg at part) names = plus 1 (part names)
count_rule each (forms.Field at part path) names = plus (capped (length path)) (part names)
count_rule each (forms.Tuple at parts) names = with_parts (λ count. count names) 1 parts
count_rule each (forms.If at arms otherwise) names = plus (with_parts (arm_count names) 1 arms) (otherwise names)
count_rule each (forms.Table at keys rows) names = with_parts (row_count names) (with_parts (key_count names) 1 keys) rows
count_rule each (forms.Ratio at x y otherwise) names = plus (plus (plus 1 (x names)) (y names)) (otherwise names)
count_rule each (forms.Min at first second) names = plus (plus 1 (first names)) (second names)
count_rule each (forms.Max at first second) names = plus (plus 1 (first names)) (second names)
count_rule each (forms.Clamp at lo_at lo hi part) names = plus 1 (part names)

abbrev pub nodes_with : ℕ → ExprTree → Count
nodes_with each = fold-ExprTree Count (count_rule each)

-- how many nodes
abbrev pub nodes_in : ExprTree → Count
nodes_in = nodes_with 1

-- how many nodes that are no variables
abbrev pub own_nodes : ExprTree → Count
own_nodes = nodes_with 0
