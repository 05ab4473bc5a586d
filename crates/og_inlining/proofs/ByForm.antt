-- The tree of an expression, form by form.
use Rattle.std.proofs.Common.{◌≡◌, ◌∙◌, ℕ, ℤ, Bool, List, map, ap}
use Rattle.std.specs.Prelude.{slice_get, Some, None}
use Rattle.std.specs.Option.{option_map}
use Rattle.std.proofs.lemmas.Option.{slice_get-map}
use Rattle.og_syntax.specs.declared.expressions.ExprTree.{ExprTree}
use Rattle.og_syntax.specs.declared.expressions.ExprTree.TheOpen.{ExprTree-F}
use Rattle.og_syntax.specs.declared.expressions.ExprTree.TheOpen as forms
use Rattle.og_syntax.specs.declared.expressions.ExprTree.TheViews.{out-ExprTree}
use Rattle.og_syntax.specs.declared.expressions.ExprTree.TheVariants as exprs
use Rattle.og_syntax.specs.declared.expressions.CompareOp.{CompareOp}
use Rattle.og_syntax.specs.declared.expressions.SumPart.{SumPart}
use Rattle.og_syntax.specs.declared.expressions.ProductPart.{ProductPart}
use Rattle.og_syntax.specs.declared.expressions.IfArm.{IfArm}
use Rattle.og_syntax.specs.declared.expressions.ResultTree.{ResultTree}
use Rattle.og_syntax.specs.declared.expressions.TableRow.{TableRow}
use Rattle.og_typing.specs.Levels.{form_with, sum_with, product_with, arm_with, key_with, row_with, fold_of_form}
use Rattle.og_inlining.specs.Seen.{Seen}
use Rattle.og_inlining.specs.Trees.{row_tree, row_there, tree_rule, tree_in}

module _ (seen : Seen) where
  by_form : (e : ExprTree) (form : ExprTree-F ExprTree) → out-ExprTree e ≡ form
      → tree_in e seen ≡ tree_rule (form_with tree_in form) seen
  by_form e form is =
      (λ i. fold_of_form tree_rule e i seen) ∙ ap (λ f. tree_rule (form_with tree_in f) seen) is

  pub tree_number : (at : ℕ) (n : ℤ)
      → tree_in (exprs.Number at n) seen ≡ tree_rule (forms.Number at n) seen
  tree_number at n = by_form (exprs.Number at n) (forms.Number at n) (exprs.outs-Number at n)

  pub tree_flag : (at : ℕ) (flag : Bool)
      → tree_in (exprs.Flag at flag) seen ≡ tree_rule (forms.Flag at flag) seen
  tree_flag at flag = by_form (exprs.Flag at flag) (forms.Flag at flag) (exprs.outs-Flag at flag)

  pub tree_name : (at : ℕ) (name : List ℕ)
      → tree_in (exprs.Name at name) seen ≡ tree_rule (forms.Name at name) seen
  tree_name at name = by_form (exprs.Name at name) (forms.Name at name) (exprs.outs-Name at name)

  pub tree_call : (at : ℕ) (name : List ℕ) (args : List ExprTree)
      → tree_in (exprs.Call at name args) seen ≡ tree_rule (forms.Call at name (map tree_in args)) seen
  tree_call at name args = by_form (exprs.Call at name args) (forms.Call at name args) (exprs.outs-Call at name args)

  pub tree_or : (at : ℕ) (parts : List ExprTree)
      → tree_in (exprs.Or at parts) seen ≡ tree_rule (forms.Or at (map tree_in parts)) seen
  tree_or at parts = by_form (exprs.Or at parts) (forms.Or at parts) (exprs.outs-Or at parts)

  pub tree_and : (at : ℕ) (parts : List ExprTree)
      → tree_in (exprs.And at parts) seen ≡ tree_rule (forms.And at (map tree_in parts)) seen
  tree_and at parts = by_form (exprs.And at parts) (forms.And at parts) (exprs.outs-And at parts)

  pub tree_not : (at : ℕ) (part : ExprTree)
      → tree_in (exprs.Not at part) seen ≡ tree_rule (forms.Not at (tree_in part)) seen
  tree_not at part = by_form (exprs.Not at part) (forms.Not at part) (exprs.outs-Not at part)

  pub tree_compare : (at : ℕ) (op : CompareOp) (left : ExprTree) (right : ExprTree)
      → tree_in (exprs.Compare at op left right) seen ≡ tree_rule (forms.Compare at op (tree_in left) (tree_in right)) seen
  tree_compare at op left right = by_form (exprs.Compare at op left right) (forms.Compare at op left right) (exprs.outs-Compare at op left right)

  pub tree_sum : (at : ℕ) (first : ExprTree) (rest : List (SumPart ExprTree))
      → tree_in (exprs.Sum at first rest) seen ≡ tree_rule (forms.Sum at (tree_in first) (map (sum_with tree_in) rest)) seen
  tree_sum at first rest = by_form (exprs.Sum at first rest) (forms.Sum at first rest) (exprs.outs-Sum at first rest)

  pub tree_product : (at : ℕ) (first : ExprTree) (rest : List (ProductPart ExprTree))
      → tree_in (exprs.Product at first rest) seen ≡ tree_rule (forms.Product at (tree_in first) (map (product_with tree_in) rest)) seen
  tree_product at first rest = by_form (exprs.Product at first rest) (forms.Product at first rest) (exprs.outs-Product at first rest)

  pub tree_neg : (at : ℕ) (part : ExprTree)
      → tree_in (exprs.Neg at part) seen ≡ tree_rule (forms.Neg at (tree_in part)) seen
  tree_neg at part = by_form (exprs.Neg at part) (forms.Neg at part) (exprs.outs-Neg at part)

  pub tree_field : (at : ℕ) (part : ExprTree) (path : List ℕ)
      → tree_in (exprs.Field at part path) seen ≡ tree_rule (forms.Field at (tree_in part) path) seen
  tree_field at part path = by_form (exprs.Field at part path) (forms.Field at part path) (exprs.outs-Field at part path)

  pub tree_tuple : (at : ℕ) (parts : List ExprTree)
      → tree_in (exprs.Tuple at parts) seen ≡ tree_rule (forms.Tuple at (map tree_in parts)) seen
  tree_tuple at parts = by_form (exprs.Tuple at parts) (forms.Tuple at parts) (exprs.outs-Tuple at parts)

  pub tree_if : (at : ℕ) (arms : List (IfArm ExprTree)) (otherwise : ExprTree)
      → tree_in (exprs.If at arms otherwise) seen ≡ tree_rule (forms.If at (map (arm_with tree_in) arms) (tree_in otherwise)) seen
  tree_if at arms otherwise = by_form (exprs.If at arms otherwise) (forms.If at arms otherwise) (exprs.outs-If at arms otherwise)

  pub tree_table : (at : ℕ) (keys : List (ResultTree ExprTree)) (rows : List (TableRow ExprTree))
      → tree_in (exprs.Table at keys rows) seen ≡ tree_rule (forms.Table at (map (key_with tree_in) keys) (map (row_with tree_in) rows)) seen
  tree_table at keys rows = by_form (exprs.Table at keys rows) (forms.Table at keys rows) (exprs.outs-Table at keys rows)

  pub tree_ratio : (at : ℕ) (x : ExprTree) (y : ExprTree) (otherwise : ExprTree)
      → tree_in (exprs.Ratio at x y otherwise) seen ≡ tree_rule (forms.Ratio at (tree_in x) (tree_in y) (tree_in otherwise)) seen
  tree_ratio at x y otherwise = by_form (exprs.Ratio at x y otherwise) (forms.Ratio at x y otherwise) (exprs.outs-Ratio at x y otherwise)

  pub tree_min : (at : ℕ) (first : ExprTree) (second : ExprTree)
      → tree_in (exprs.Min at first second) seen ≡ tree_rule (forms.Min at (tree_in first) (tree_in second)) seen
  tree_min at first second = by_form (exprs.Min at first second) (forms.Min at first second) (exprs.outs-Min at first second)

  pub tree_max : (at : ℕ) (first : ExprTree) (second : ExprTree)
      → tree_in (exprs.Max at first second) seen ≡ tree_rule (forms.Max at (tree_in first) (tree_in second)) seen
  tree_max at first second = by_form (exprs.Max at first second) (forms.Max at first second) (exprs.outs-Max at first second)

  pub tree_clamp : (at : ℕ) (lo_at : ℕ) (lo : ℤ) (hi : ℤ) (part : ExprTree)
      → tree_in (exprs.Clamp at lo_at lo hi part) seen ≡ tree_rule (forms.Clamp at lo_at lo hi (tree_in part)) seen
  tree_clamp at lo_at lo hi part = by_form (exprs.Clamp at lo_at lo hi part) (forms.Clamp at lo_at lo hi part) (exprs.outs-Clamp at lo_at lo hi part)

pub ruleset leaves = (tree_number, tree_flag, tree_name, tree_call)

pub ruleset truths = (tree_or, tree_and, tree_not, tree_compare)

pub ruleset numbers = (tree_neg, tree_clamp)

pub ruleset chains = (tree_sum, tree_product)

pub ruleset quotients = (tree_ratio)

pub ruleset picks = (tree_min, tree_max)

pub ruleset composed = (tree_field, tree_tuple, tree_if, tree_table)

pub row_found : (seen : Seen) (rows : List (TableRow ExprTree)) (k : ℕ) (row : TableRow ExprTree) → slice_get rows k ≡ Some row
    → row_there seen (map (row_with tree_in) rows) k ≡ tree_in row.body seen
unfolding row_there
row_found seen rows k row is =
    ap (row_tree seen) (slice_get-map (row_with tree_in) rows k) ∙ ap (λ o. row_tree seen (option_map (row_with tree_in) o)) is

pub row_missing : (seen : Seen) (rows : List (TableRow ExprTree)) (k : ℕ) → slice_get rows k ≡ None
    → row_there seen (map (row_with tree_in) rows) k ≡ None
unfolding row_there
row_missing seen rows k is =
    ap (row_tree seen) (slice_get-map (row_with tree_in) rows k) ∙ ap (λ o. row_tree seen (option_map (row_with tree_in) o)) is

pub ruleset rows_there = (row_found, row_missing)
