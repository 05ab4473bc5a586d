-- How many nodes an expression has, form by form.
use Rattle.std.proofs.Common.{◌≡◌, ◌∙◌, ℕ, ℤ, Bool, List, map, ap}
use Rattle.og_syntax.specs.declared.expressions.ExprTree.{ExprTree}
use Rattle.og_syntax.specs.declared.expressions.ExprTree.TheOpen.{ExprTree-F}
use Rattle.og_syntax.specs.declared.expressions.ExprTree.TheOpen as forms
use Rattle.og_syntax.specs.declared.expressions.ExprTree.TheViews.{out-ExprTree}
use Rattle.og_syntax.specs.declared.expressions.ExprTree.TheVariants as exprs
use Rattle.og_syntax.specs.declared.expressions.CompareOp.{CompareOp}
use Rattle.og_syntax.specs.declared.expressions.SumPart.{SumPart}
use Rattle.og_syntax.specs.declared.expressions.ProductPart.{ProductPart}
use Rattle.og_syntax.specs.declared.expressions.IfArm.{IfArm}
use Rattle.og_syntax.specs.declared.expressions.ResultTree.{ResultTree}
use Rattle.og_syntax.specs.declared.expressions.TableRow.{TableRow}
use Rattle.og_typing.specs.Scopes.{Names}
use Rattle.og_typing.specs.Levels.{form_with, sum_with, product_with, arm_with, key_with, row_with, fold_of_form}
use Rattle.og_typing.specs.Sizes.{count_rule, nodes_with}

module _ (each : ℕ) (names : Names) where
  by_form : (e : ExprTree) (form : ExprTree-F ExprTree) → out-ExprTree e ≡ form
      → nodes_with each e names ≡ count_rule each (form_with (nodes_with each) form) names
  by_form e form is =
      (λ i. fold_of_form (count_rule each) e i names) ∙ ap (λ f. count_rule each (form_with (nodes_with each) f) names) is

  pub size_number : (at : ℕ) (n : ℤ)
      → nodes_with each (exprs.Number at n) names ≡ count_rule each (forms.Number at n) names
  size_number at n = by_form (exprs.Number at n) (forms.Number at n) (exprs.outs-Number at n)

  pub size_flag : (at : ℕ) (flag : Bool)
      → nodes_with each (exprs.Flag at flag) names ≡ count_rule each (forms.Flag at flag) names
  size_flag at flag = by_form (exprs.Flag at flag) (forms.Flag at flag) (exprs.outs-Flag at flag)

  pub size_name : (at : ℕ) (name : List ℕ)
      → nodes_with each (exprs.Name at name) names ≡ count_rule each (forms.Name at name) names
  size_name at name = by_form (exprs.Name at name) (forms.Name at name) (exprs.outs-Name at name)

  pub size_call : (at : ℕ) (name : List ℕ) (args : List ExprTree)
      → nodes_with each (exprs.Call at name args) names ≡ count_rule each (forms.Call at name (map (nodes_with each) args)) names
  size_call at name args = by_form (exprs.Call at name args) (forms.Call at name args) (exprs.outs-Call at name args)

  pub size_or : (at : ℕ) (parts : List ExprTree)
      → nodes_with each (exprs.Or at parts) names ≡ count_rule each (forms.Or at (map (nodes_with each) parts)) names
  size_or at parts = by_form (exprs.Or at parts) (forms.Or at parts) (exprs.outs-Or at parts)

  pub size_and : (at : ℕ) (parts : List ExprTree)
      → nodes_with each (exprs.And at parts) names ≡ count_rule each (forms.And at (map (nodes_with each) parts)) names
  size_and at parts = by_form (exprs.And at parts) (forms.And at parts) (exprs.outs-And at parts)

  pub size_not : (at : ℕ) (part : ExprTree)
      → nodes_with each (exprs.Not at part) names ≡ count_rule each (forms.Not at ((nodes_with each) part)) names
  size_not at part = by_form (exprs.Not at part) (forms.Not at part) (exprs.outs-Not at part)

  pub size_compare : (at : ℕ) (op : CompareOp) (left : ExprTree) (right : ExprTree)
      → nodes_with each (exprs.Compare at op left right) names ≡ count_rule each (forms.Compare at op ((nodes_with each) left) ((nodes_with each) right)) names
  size_compare at op left right = by_form (exprs.Compare at op left right) (forms.Compare at op left right) (exprs.outs-Compare at op left right)

  pub size_sum : (at : ℕ) (first : ExprTree) (rest : List (SumPart ExprTree))
      → nodes_with each (exprs.Sum at first rest) names ≡ count_rule each (forms.Sum at ((nodes_with each) first) (map (sum_with (nodes_with each)) rest)) names
  size_sum at first rest = by_form (exprs.Sum at first rest) (forms.Sum at first rest) (exprs.outs-Sum at first rest)

  pub size_product : (at : ℕ) (first : ExprTree) (rest : List (ProductPart ExprTree))
      → nodes_with each (exprs.Product at first rest) names ≡ count_rule each (forms.Product at ((nodes_with each) first) (map (product_with (nodes_with each)) rest)) names
  size_product at first rest = by_form (exprs.Product at first rest) (forms.Product at first rest) (exprs.outs-Product at first rest)

  pub size_neg : (at : ℕ) (part : ExprTree)
      → nodes_with each (exprs.Neg at part) names ≡ count_rule each (forms.Neg at ((nodes_with each) part)) names
  size_neg at part = by_form (exprs.Neg at part) (forms.Neg at part) (exprs.outs-Neg at part)

  pub size_field : (at : ℕ) (part : ExprTree) (path : List ℕ)
      → nodes_with each (exprs.Field at part path) names ≡ count_rule each (forms.Field at ((nodes_with each) part) path) names
  size_field at part path = by_form (exprs.Field at part path) (forms.Field at part path) (exprs.outs-Field at part path)

  pub size_tuple : (at : ℕ) (parts : List ExprTree)
      → nodes_with each (exprs.Tuple at parts) names ≡ count_rule each (forms.Tuple at (map (nodes_with each) parts)) names
  size_tuple at parts = by_form (exprs.Tuple at parts) (forms.Tuple at parts) (exprs.outs-Tuple at parts)

  pub size_if : (at : ℕ) (arms : List (IfArm ExprTree)) (otherwise : ExprTree)
      → nodes_with each (exprs.If at arms otherwise) names ≡ count_rule each (forms.If at (map (arm_with (nodes_with each)) arms) ((nodes_with each) otherwise)) names
  size_if at arms otherwise = by_form (exprs.If at arms otherwise) (forms.If at arms otherwise) (exprs.outs-If at arms otherwise)

  pub size_table : (at : ℕ) (keys : List (ResultTree ExprTree)) (rows : List (TableRow ExprTree))
      → nodes_with each (exprs.Table at keys rows) names ≡ count_rule each (forms.Table at (map (key_with (nodes_with each)) keys) (map (row_with (nodes_with each)) rows)) names
  size_table at keys rows = by_form (exprs.Table at keys rows) (forms.Table at keys rows) (exprs.outs-Table at keys rows)

  pub size_ratio : (at : ℕ) (x : ExprTree) (y : ExprTree) (otherwise : ExprTree)
      → nodes_with each (exprs.Ratio at x y otherwise) names ≡ count_rule each (forms.Ratio at ((nodes_with each) x) ((nodes_with each) y) ((nodes_with each) otherwise)) names
  size_ratio at x y otherwise = by_form (exprs.Ratio at x y otherwise) (forms.Ratio at x y otherwise) (exprs.outs-Ratio at x y otherwise)

  pub size_min : (at : ℕ) (first : ExprTree) (second : ExprTree)
      → nodes_with each (exprs.Min at first second) names ≡ count_rule each (forms.Min at ((nodes_with each) first) ((nodes_with each) second)) names
  size_min at first second = by_form (exprs.Min at first second) (forms.Min at first second) (exprs.outs-Min at first second)

  pub size_max : (at : ℕ) (first : ExprTree) (second : ExprTree)
      → nodes_with each (exprs.Max at first second) names ≡ count_rule each (forms.Max at ((nodes_with each) first) ((nodes_with each) second)) names
  size_max at first second = by_form (exprs.Max at first second) (forms.Max at first second) (exprs.outs-Max at first second)

  pub size_clamp : (at : ℕ) (lo_at : ℕ) (lo : ℤ) (hi : ℤ) (part : ExprTree)
      → nodes_with each (exprs.Clamp at lo_at lo hi part) names ≡ count_rule each (forms.Clamp at lo_at lo hi ((nodes_with each) part)) names
  size_clamp at lo_at lo hi part = by_form (exprs.Clamp at lo_at lo hi part) (forms.Clamp at lo_at lo hi part) (exprs.outs-Clamp at lo_at lo hi part)

pub ruleset sizes = (
  size_number,
  size_flag,
  size_name,
  size_call,
  size_or,
  size_and,
  size_not,
  size_compare,
  size_sum,
  size_product,
  size_neg,
  size_field,
  size_tuple,
  size_if,
  size_table,
  size_ratio,
  size_min,
  size_max,
  size_clamp,
)
