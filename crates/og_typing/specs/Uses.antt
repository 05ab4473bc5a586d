-- How often each variable stands in an expression once its calls are replaced by the functions' bodies, and the variable
-- that such an expression is. Sums stand still at 2^32 - 1.
use Rattle.std.specs.Prelude.{ℕ, ◌+◌, List, [], ◌∷◌, Option, Some, None, slice_get, slice_set}
use Rattle.og_syntax.specs.declared.expressions.ExprTree.{ExprTree}
use Rattle.og_syntax.specs.declared.expressions.ExprTree.TheOpen.{ExprTree-F}
use Rattle.og_syntax.specs.declared.expressions.ExprTree.TheOpen as forms
use Rattle.og_syntax.specs.declared.expressions.ExprTree.TheFolds.{fold-ExprTree}
use Rattle.og_syntax.specs.declared.expressions.SumPart.{SumPart}
use Rattle.og_syntax.specs.declared.expressions.SumPart.TheVariants as sums
use Rattle.og_syntax.specs.declared.expressions.ProductPart.{ProductPart}
use Rattle.og_syntax.specs.declared.expressions.ProductPart.TheVariants as products
use Rattle.og_syntax.specs.declared.expressions.IfArm.{IfArm}
use Rattle.og_syntax.specs.declared.expressions.ResultTree.{ResultTree}
use Rattle.og_syntax.specs.declared.expressions.TableRow.{TableRow}
use Rattle.og_names.specs.Names.{lookup, place}
use Rattle.og_typing.specs.declared.meaning.Meaning.{Meaning}
use Rattle.og_typing.specs.declared.meaning.Meaning.TheVariants as meanings
use Rattle.og_typing.specs.Scopes.{Names}
use Rattle.og_typing.specs.Sizes.{plus, times, used}

-- the counts of the variables, with those of an expression that stands there so many times
abbrev pub Uses : Type 0
Uses = Names → ℕ → List ℕ → List ℕ

-- with so many more of the variable
unfoldable pub noted : Option ℕ → ℕ → List ℕ → List ℕ
noted None often counts = counts
noted (Some k) often counts = slice_set counts k (plus (used (slice_get counts k)) often)

-- with those of one part after another
abbrev pub through : {P : Type 0} → (P → List ℕ → List ℕ) → List ℕ → List P → List ℕ
through note counts [] = counts
through note counts (part ∷ parts) = through note (note part counts) parts

abbrev pub part_uses : Names → ℕ → Uses → List ℕ → List ℕ
part_uses names often uses = uses names often

abbrev pub sum_uses : Names → ℕ → SumPart Uses → List ℕ → List ℕ
sum_uses names often (sums.Plus uses) = uses names often
sum_uses names often (sums.Minus uses) = uses names often

abbrev pub product_uses : Names → ℕ → ProductPart Uses → List ℕ → List ℕ
product_uses names often (products.Times uses) counts = uses names often counts
product_uses names often (products.Over n) counts = counts

abbrev pub arm_uses : Names → ℕ → IfArm Uses → List ℕ → List ℕ
arm_uses names often arm counts = arm.body names often (arm.cond names often counts)

abbrev pub key_uses : Names → ℕ → ResultTree Uses → List ℕ → List ℕ
key_uses names often key = key.expr names often

abbrev pub row_uses : Names → ℕ → TableRow Uses → List ℕ → List ℕ
row_uses names often row = row.body names often

-- of the arguments from the place on, each as often as the body uses it
abbrev pub argument_uses : Names → ℕ → List ℕ → ℕ → List ℕ → List Uses → List ℕ
argument_uses names often of_body i counts [] = counts
argument_uses names often of_body i counts (uses ∷ more) =
    argument_uses names often of_body (i + 1) (uses names (times often (used (slice_get of_body i))) counts) more

abbrev pub call_uses : Names → ℕ → Option Meaning → List ℕ → List Uses → List ℕ
call_uses names often (Some (meanings.Function f)) counts args = argument_uses names often f.uses 0 counts args
call_uses names often (Some _) counts args = counts
call_uses names often None counts args = counts

unfoldable pub uses_rule : ExprTree-F Uses → Uses
uses_rule (forms.Number at n) names often counts = counts
uses_rule (forms.Flag at flag) names often counts = counts
uses_rule (forms.Name at name) names often counts = noted (place name names.variables) often counts
uses_rule (forms.Call at name args) names often counts = call_uses names often (lookup name names.declared) counts args
uses_rule (forms.Or at parts) names often counts = through (part_uses names often) counts parts
uses_rule (forms.And at parts) names often counts = through (part_uses names often) counts parts
uses_rule (forms.Not at part) names often counts = part names often counts
uses_rule (forms.Compare at op left right) names often counts = right names often (left names often counts)
uses_rule (forms.Sum at first rest) names often counts = through (sum_uses names often) (first names often counts) rest
uses_rule (forms.Product at first rest) names often counts =
    through (product_uses names often) (first names often counts) rest
uses_rule (forms.Neg at part) names often counts = part names often counts
uses_rule (forms.Field at part path) names often counts = part names often counts
uses_rule (forms.Tuple at parts) names often counts = through (part_uses names often) counts parts
uses_rule (forms.If at arms otherwise) names often counts = otherwise names often (through (arm_uses names often) counts arms)
uses_rule (forms.Table at keys rows) names often counts =
    through (row_uses names often) (through (key_uses names often) counts keys) rows
uses_rule (forms.Ratio at x y otherwise) names often counts = otherwise names often (y names often (x names often counts))
uses_rule (forms.Min at first second) names often counts = second names often (first names often counts)
uses_rule (forms.Max at first second) names often counts = second names often (first names often counts)
uses_rule (forms.Clamp at lo_at lo hi part) names often counts = part names often counts

abbrev pub uses_in : ExprTree → Uses
uses_in = fold-ExprTree Uses uses_rule

-- ---- the variable that an expression is

abbrev pub variable_at : Names → Option (Names → Option ℕ) → Option ℕ
variable_at names None = None
variable_at names (Some variable) = variable names

-- the argument that the body is, where it is one
abbrev pub given_by : Names → Option ℕ → List (Names → Option ℕ) → Option ℕ
given_by names None args = None
given_by names (Some k) args = variable_at names (slice_get args k)

abbrev pub call_variable : Names → Option Meaning → List (Names → Option ℕ) → Option ℕ
call_variable names (Some (meanings.Function f)) args = given_by names f.gives args
call_variable names (Some _) args = None
call_variable names None args = None

unfoldable pub variable_rule : ExprTree-F (Names → Option ℕ) → Names → Option ℕ
variable_rule (forms.Name at name) names = place name names.variables
variable_rule (forms.Call at name args) names = call_variable names (lookup name names.declared) args
variable_rule _ names = None

-- the variable that the expression is, once its calls are replaced, if it is one
abbrev pub variable_in : ExprTree → Names → Option ℕ
variable_in = fold-ExprTree (Names → Option ℕ) variable_rule
