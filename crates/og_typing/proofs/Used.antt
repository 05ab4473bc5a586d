-- How often variables stand in an expression, form by form, and the variable that it is.
use Rattle.std.proofs.Common.{◌≡◌, ◌∙◌, ℕ, ℤ, Bool, List, map, ap}
use Rattle.std.specs.Prelude.{slice_get}
use Rattle.std.specs.Option.{option_map}
use Rattle.std.proofs.lemmas.Option.{slice_get-map}
use Rattle.og_syntax.specs.declared.expressions.ExprTree.{ExprTree}
use Rattle.og_syntax.specs.declared.expressions.ExprTree.TheOpen.{ExprTree-F}
use Rattle.og_syntax.specs.declared.expressions.ExprTree.TheOpen as forms
use Rattle.og_syntax.specs.declared.expressions.ExprTree.TheViews.{out-ExprTree}
use Rattle.og_syntax.specs.declared.expressions.ExprTree.TheVariants as exprs
use Rattle.og_syntax.specs.declared.expressions.CompareOp.{CompareOp}
use Rattle.og_syntax.specs.declared.expressions.SumPart.{SumPart}
use Rattle.og_syntax.specs.declared.expressions.ProductPart.{ProductPart}
use Rattle.og_syntax.specs.declared.expressions.IfArm.{IfArm}
use Rattle.og_syntax.specs.declared.expressions.ResultTree.{ResultTree}
use Rattle.og_syntax.specs.declared.expressions.TableRow.{TableRow}
use Rattle.og_typing.specs.Scopes.{Names}
use Rattle.og_typing.specs.Levels.{form_with, sum_with, product_with, arm_with, key_with, row_with, fold_of_form}
use Rattle.og_typing.specs.Uses.{uses_rule, uses_in, variable_rule, variable_in}

module _ (names : Names) (often : ℕ) (counts : List ℕ) where
  uses_by_form : (e : ExprTree) (form : ExprTree-F ExprTree) → out-ExprTree e ≡ form
      → uses_in e names often counts ≡ uses_rule (form_with uses_in form) names often counts
  uses_by_form e form is =
      (λ i. fold_of_form uses_rule e i names often counts) ∙ ap (λ f. uses_rule (form_with uses_in f) names often counts) is

  pub uses_number : (at : ℕ) (n : ℤ)
      → uses_in (exprs.Number at n) names often counts ≡ uses_rule (forms.Number at n) names often counts
  uses_number at n = uses_by_form (exprs.Number at n) (forms.Number at n) (exprs.outs-Number at n)

  pub uses_flag : (at : ℕ) (flag : Bool)
      → uses_in (exprs.Flag at flag) names often counts ≡ uses_rule (forms.Flag at flag) names often counts
  uses_flag at flag = uses_by_form (exprs.Flag at flag) (forms.Flag at flag) (exprs.outs-Flag at flag)

  pub uses_name : (at : ℕ) (name : List ℕ)
      → uses_in (exprs.Name at name) names often counts ≡ uses_rule (forms.Name at name) names often counts
  uses_name at name = uses_by_form (exprs.Name at name) (forms.Name at name) (exprs.outs-Name at name)

  pub uses_call : (at : ℕ) (name : List ℕ) (args : List ExprTree)
      → uses_in (exprs.Call at name args) names often counts ≡ uses_rule (forms.Call at name (map uses_in args)) names often counts
  uses_call at name args = uses_by_form (exprs.Call at name args) (forms.Call at name args) (exprs.outs-Call at name args)

  pub uses_or : (at : ℕ) (parts : List ExprTree)
      → uses_in (exprs.Or at parts) names often counts ≡ uses_rule (forms.Or at (map uses_in parts)) names often counts
  uses_or at parts = uses_by_form (exprs.Or at parts) (forms.Or at parts) (exprs.outs-Or at parts)

  pub uses_and : (at : ℕ) (parts : List ExprTree)
      → uses_in (exprs.And at parts) names often counts ≡ uses_rule (forms.And at (map uses_in parts)) names often counts
  uses_and at parts = uses_by_form (exprs.And at parts) (forms.And at parts) (exprs.outs-And at parts)

  pub uses_not : (at : ℕ) (part : ExprTree)
      → uses_in (exprs.Not at part) names often counts ≡ uses_rule (forms.Not at (uses_in part)) names often counts
  uses_not at part = uses_by_form (exprs.Not at part) (forms.Not at part) (exprs.outs-Not at part)

  pub uses_compare : (at : ℕ) (op : CompareOp) (left : ExprTree) (right : ExprTree)
      → uses_in (exprs.Compare at op left right) names often counts ≡ uses_rule (forms.Compare at op (uses_in left) (uses_in right)) names often counts
  uses_compare at op left right = uses_by_form (exprs.Compare at op left right) (forms.Compare at op left right) (exprs.outs-Compare at op left right)

  pub uses_sum : (at : ℕ) (first : ExprTree) (rest : List (SumPart ExprTree))
      → uses_in (exprs.Sum at first rest) names often counts ≡ uses_rule (forms.Sum at (uses_in first) (map (sum_with uses_in) rest)) names often counts
  uses_sum at first rest = uses_by_form (exprs.Sum at first rest) (forms.Sum at first rest) (exprs.outs-Sum at first rest)

  pub uses_product : (at : ℕ) (first : ExprTree) (rest : List (ProductPart ExprTree))
      → uses_in (exprs.Product at first rest) names often counts ≡ uses_rule (forms.Product at (uses_in first) (map (product_with uses_in) rest)) names often counts
  uses_product at first rest = uses_by_form (exprs.Product at first rest) (forms.Product at first rest) (exprs.outs-Product at first rest)

  pub uses_neg : (at : ℕ) (part : ExprTree)
      → uses_in (exprs.Neg at part) names often counts ≡ uses_rule (forms.Neg at (uses_in part)) names often counts
  uses_neg at part = uses_by_form (exprs.Neg at part) (forms.Neg at part) (exprs.outs-Neg at part)

  pub uses_field : (at : ℕ) (part : ExprTree) (path : List ℕ)
      → uses_in (exprs.Field at part path) names often counts ≡ uses_rule (forms.Field at (uses_in part) path) names often counts
  uses_field at part path = uses_by_form (exprs.Field at part path) (forms.Field at part path) (exprs.outs-Field at part path)

  pub uses_tuple : (at : ℕ) (parts : List ExprTree)
      → uses_in (exprs.Tuple at parts) names often counts ≡ uses_rule (forms.Tuple at (map uses_in parts)) names often counts
  uses_tuple at parts = uses_by_form (exprs.Tuple at parts) (forms.Tuple at parts) (exprs.outs-Tuple at parts)

  pub uses_if : (at : ℕ) (arms : List (IfArm ExprTree)) (otherwise : ExprTree)
      → uses_in (exprs.If at arms otherwise) names often counts ≡ uses_rule (forms.If at (map (arm_with uses_in) arms) (uses_in otherwise)) names often counts
  uses_if at arms otherwise = uses_by_form (exprs.If at arms otherwise) (forms.If at arms otherwise) (exprs.outs-If at arms otherwise)

  pub uses_table : (at : ℕ) (keys : List (ResultTree ExprTree)) (rows : List (TableRow ExprTree))
      → uses_in (exprs.Table at keys rows) names often counts ≡ uses_rule (forms.Table at (map (key_with uses_in) keys) (map (row_with uses_in) rows)) names often counts
  uses_table at keys rows = uses_by_form (exprs.Table at keys rows) (forms.Table at keys rows) (exprs.outs-Table at keys rows)

  pub uses_ratio : (at : ℕ) (x : ExprTree) (y : ExprTree) (otherwise : ExprTree)
      → uses_in (exprs.Ratio at x y otherwise) names often counts ≡ uses_rule (forms.Ratio at (uses_in x) (uses_in y) (uses_in otherwise)) names often counts
  uses_ratio at x y otherwise = uses_by_form (exprs.Ratio at x y otherwise) (forms.Ratio at x y otherwise) (exprs.outs-Ratio at x y otherwise)

  pub uses_min : (at : ℕ) (first : ExprTree) (second : ExprTree)
      → uses_in (exprs.Min at first second) names often counts ≡ uses_rule (forms.Min at (uses_in first) (uses_in second)) names often counts
  uses_min at first second = uses_by_form (exprs.Min at first second) (forms.Min at first second) (exprs.outs-Min at first second)

  pub uses_max : (at : ℕ) (first : ExprTree) (second : ExprTree)
      → uses_in (exprs.Max at first second) names often counts ≡ uses_rule (forms.Max at (uses_in first) (uses_in second)) names often counts
  uses_max at first second = uses_by_form (exprs.Max at first second) (forms.Max at first second) (exprs.outs-Max at first second)

  pub uses_clamp : (at : ℕ) (lo_at : ℕ) (lo : ℤ) (hi : ℤ) (part : ExprTree)
      → uses_in (exprs.Clamp at lo_at lo hi part) names often counts ≡ uses_rule (forms.Clamp at lo_at lo hi (uses_in part)) names often counts
  uses_clamp at lo_at lo hi part = uses_by_form (exprs.Clamp at lo_at lo hi part) (forms.Clamp at lo_at lo hi part) (exprs.outs-Clamp at lo_at lo hi part)

pub ruleset uses = (
  uses_number,
  uses_flag,
  uses_name,
  uses_call,
  uses_or,
  uses_and,
  uses_not,
  uses_compare,
  uses_sum,
  uses_product,
  uses_neg,
  uses_field,
  uses_tuple,
  uses_if,
  uses_table,
  uses_ratio,
  uses_min,
  uses_max,
  uses_clamp,
)

module _ (names : Names) where
  variable_by_form : (e : ExprTree) (form : ExprTree-F ExprTree) → out-ExprTree e ≡ form
      → variable_in e names ≡ variable_rule (form_with variable_in form) names
  variable_by_form e form is =
      (λ i. fold_of_form variable_rule e i names) ∙ ap (λ f. variable_rule (form_with variable_in f) names) is

  pub variable_number : (at : ℕ) (n : ℤ)
      → variable_in (exprs.Number at n) names ≡ variable_rule (forms.Number at n) names
  variable_number at n = variable_by_form (exprs.Number at n) (forms.Number at n) (exprs.outs-Number at n)

  pub variable_flag : (at : ℕ) (flag : Bool)
      → variable_in (exprs.Flag at flag) names ≡ variable_rule (forms.Flag at flag) names
  variable_flag at flag = variable_by_form (exprs.Flag at flag) (forms.Flag at flag) (exprs.outs-Flag at flag)

  pub variable_name : (at : ℕ) (name : List ℕ)
      → variable_in (exprs.Name at name) names ≡ variable_rule (forms.Name at name) names
  variable_name at name = variable_by_form (exprs.Name at name) (forms.Name at name) (exprs.outs-Name at name)

  pub variable_call : (at : ℕ) (name : List ℕ) (args : List ExprTree)
      → variable_in (exprs.Call at name args) names ≡ variable_rule (forms.Call at name (map variable_in args)) names
  variable_call at name args = variable_by_form (exprs.Call at name args) (forms.Call at name args) (exprs.outs-Call at name args)

  pub variable_or : (at : ℕ) (parts : List ExprTree)
      → variable_in (exprs.Or at parts) names ≡ variable_rule (forms.Or at (map variable_in parts)) names
  variable_or at parts = variable_by_form (exprs.Or at parts) (forms.Or at parts) (exprs.outs-Or at parts)

  pub variable_and : (at : ℕ) (parts : List ExprTree)
      → variable_in (exprs.And at parts) names ≡ variable_rule (forms.And at (map variable_in parts)) names
  variable_and at parts = variable_by_form (exprs.And at parts) (forms.And at parts) (exprs.outs-And at parts)

  pub variable_not : (at : ℕ) (part : ExprTree)
      → variable_in (exprs.Not at part) names ≡ variable_rule (forms.Not at (variable_in part)) names
  variable_not at part = variable_by_form (exprs.Not at part) (forms.Not at part) (exprs.outs-Not at part)

  pub variable_compare : (at : ℕ) (op : CompareOp) (left : ExprTree) (right : ExprTree)
      → variable_in (exprs.Compare at op left right) names ≡ variable_rule (forms.Compare at op (variable_in left) (variable_in right)) names
  variable_compare at op left right = variable_by_form (exprs.Compare at op left right) (forms.Compare at op left right) (exprs.outs-Compare at op left right)

  pub variable_sum : (at : ℕ) (first : ExprTree) (rest : List (SumPart ExprTree))
      → variable_in (exprs.Sum at first rest) names ≡ variable_rule (forms.Sum at (variable_in first) (map (sum_with variable_in) rest)) names
  variable_sum at first rest = variable_by_form (exprs.Sum at first rest) (forms.Sum at first rest) (exprs.outs-Sum at first rest)

  pub variable_product : (at : ℕ) (first : ExprTree) (rest : List (ProductPart ExprTree))
      → variable_in (exprs.Product at first rest) names ≡ variable_rule (forms.Product at (variable_in first) (map (product_with variable_in) rest)) names
  variable_product at first rest = variable_by_form (exprs.Product at first rest) (forms.Product at first rest) (exprs.outs-Product at first rest)

  pub variable_neg : (at : ℕ) (part : ExprTree)
      → variable_in (exprs.Neg at part) names ≡ variable_rule (forms.Neg at (variable_in part)) names
  variable_neg at part = variable_by_form (exprs.Neg at part) (forms.Neg at part) (exprs.outs-Neg at part)

  pub variable_field : (at : ℕ) (part : ExprTree) (path : List ℕ)
      → variable_in (exprs.Field at part path) names ≡ variable_rule (forms.Field at (variable_in part) path) names
  variable_field at part path = variable_by_form (exprs.Field at part path) (forms.Field at part path) (exprs.outs-Field at part path)

  pub variable_tuple : (at : ℕ) (parts : List ExprTree)
      → variable_in (exprs.Tuple at parts) names ≡ variable_rule (forms.Tuple at (map variable_in parts)) names
  variable_tuple at parts = variable_by_form (exprs.Tuple at parts) (forms.Tuple at parts) (exprs.outs-Tuple at parts)

  pub variable_if : (at : ℕ) (arms : List (IfArm ExprTree)) (otherwise : ExprTree)
      → variable_in (exprs.If at arms otherwise) names ≡ variable_rule (forms.If at (map (arm_with variable_in) arms) (variable_in otherwise)) names
  variable_if at arms otherwise = variable_by_form (exprs.If at arms otherwise) (forms.If at arms otherwise) (exprs.outs-If at arms otherwise)

  pub variable_table : (at : ℕ) (keys : List (ResultTree ExprTree)) (rows : List (TableRow ExprTree))
      → variable_in (exprs.Table at keys rows) names ≡ variable_rule (forms.Table at (map (key_with variable_in) keys) (map (row_with variable_in) rows)) names
  variable_table at keys rows = variable_by_form (exprs.Table at keys rows) (forms.Table at keys rows) (exprs.outs-Table at keys rows)

  pub variable_ratio : (at : ℕ) (x : ExprTree) (y : ExprTree) (otherwise : ExprTree)
      → variable_in (exprs.Ratio at x y otherwise) names ≡ variable_rule (forms.Ratio at (variable_in x) (variable_in y) (variable_in otherwise)) names
  variable_ratio at x y otherwise = variable_by_form (exprs.Ratio at x y otherwise) (forms.Ratio at x y otherwise) (exprs.outs-Ratio at x y otherwise)

  pub variable_min : (at : ℕ) (first : ExprTree) (second : ExprTree)
      → variable_in (exprs.Min at first second) names ≡ variable_rule (forms.Min at (variable_in first) (variable_in second)) names
  variable_min at first second = variable_by_form (exprs.Min at first second) (forms.Min at first second) (exprs.outs-Min at first second)

  pub variable_max : (at : ℕ) (first : ExprTree) (second : ExprTree)
      → variable_in (exprs.Max at first second) names ≡ variable_rule (forms.Max at (variable_in first) (variable_in second)) names
  variable_max at first second = variable_by_form (exprs.Max at first second) (forms.Max at first second) (exprs.outs-Max at first second)

  pub variable_clamp : (at : ℕ) (lo_at : ℕ) (lo : ℤ) (hi : ℤ) (part : ExprTree)
      → variable_in (exprs.Clamp at lo_at lo hi part) names ≡ variable_rule (forms.Clamp at lo_at lo hi (variable_in part)) names
  variable_clamp at lo_at lo hi part = variable_by_form (exprs.Clamp at lo_at lo hi part) (forms.Clamp at lo_at lo hi part) (exprs.outs-Clamp at lo_at lo hi part)

pub ruleset variables = (
  variable_number,
  variable_flag,
  variable_name,
  variable_call,
  variable_or,
  variable_and,
  variable_not,
  variable_compare,
  variable_sum,
  variable_product,
  variable_neg,
  variable_field,
  variable_tuple,
  variable_if,
  variable_table,
  variable_ratio,
  variable_min,
  variable_max,
  variable_clamp,
)

pub argument_at : (args : List ExprTree) (k : ℕ)
    → slice_get (map variable_in args) k ≡ option_map variable_in (slice_get args k)
argument_at args k = slice_get-map variable_in args k
