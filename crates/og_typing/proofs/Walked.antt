-- What the walk gives of an expression, form by form.
use Rattle.std.proofs.Common.{◌≡◌, ◌∙◌, ℕ, ℤ, Bool, List, map, refl, ap}
use Rattle.og_syntax.specs.declared.expressions.ExprTree.{ExprTree}
use Rattle.og_syntax.specs.declared.expressions.ExprTree.TheOpen.{ExprTree-F}
use Rattle.og_syntax.specs.declared.expressions.ExprTree.TheOpen as forms
use Rattle.og_syntax.specs.declared.expressions.ExprTree.TheViews.{out-ExprTree}
use Rattle.og_syntax.specs.declared.expressions.ExprTree.TheVariants as exprs
use Rattle.og_syntax.specs.declared.expressions.CompareOp.{CompareOp}
use Rattle.og_syntax.specs.declared.expressions.SumPart.{SumPart}
use Rattle.og_syntax.specs.declared.expressions.ProductPart.{ProductPart}
use Rattle.og_syntax.specs.declared.expressions.IfArm.{IfArm}
use Rattle.og_syntax.specs.declared.expressions.ResultTree.{ResultTree}
use Rattle.og_syntax.specs.declared.expressions.TableRow.{TableRow}
use Rattle.std.specs.Prelude.{nat_le}
use Rattle.og_syntax.specs.Places.{place_step, expr_place}
use Rattle.og_typing.specs.declared.fault.WireFault.TheVariants.{TooBig}
use Rattle.og_typing.specs.Checked.{◌>>◌, rule}
use Rattle.og_typing.specs.Scopes.{Names}
use Rattle.og_typing.specs.Levels.{form_with, sum_with, product_with, arm_with, key_with, row_with, fold_of_form}
use Rattle.og_typing.specs.Expressions.{expr_rule, form_walk, part_of, expr_walk, rule_walk, field_walk, tuple_walk, if_walk, table_walk}

-- A form begins where it did, whatever stands for its parts.
form_place : {A B : Type 0} (f : A → B) (form : ExprTree-F A) → place_step (form_with f form) ≡ place_step form
form_place f (forms.Number at n) = refl
form_place f (forms.Flag at flag) = refl
form_place f (forms.Name at name) = refl
form_place f (forms.Call at name args) = refl
form_place f (forms.Or at parts) = refl
form_place f (forms.And at parts) = refl
form_place f (forms.Not at part) = refl
form_place f (forms.Compare at op left right) = refl
form_place f (forms.Sum at first rest) = refl
form_place f (forms.Product at first rest) = refl
form_place f (forms.Neg at part) = refl
form_place f (forms.Field at part path) = refl
form_place f (forms.Tuple at parts) = refl
form_place f (forms.If at arms otherwise) = refl
form_place f (forms.Table at keys rows) = refl
form_place f (forms.Ratio at x y otherwise) = refl
form_place f (forms.Min at first second) = refl
form_place f (forms.Max at first second) = refl
form_place f (forms.Clamp at lo_at lo hi part) = refl

whole : (e : ExprTree)
    → part_of e ≡ record { at = place_step (form_with part_of (out-ExprTree e)); walk = form_walk (form_with part_of (out-ExprTree e)) }
whole e = fold_of_form (λ form. record { at = place_step form; walk = form_walk form }) e

pub part_place : (e : ExprTree) → (part_of e).at ≡ expr_place e
part_place e = ap (λ part. part.at) (whole e) ∙ form_place part_of (out-ExprTree e)

pub walk_out : (e : ExprTree) (names : Names) (depth : ℕ)
    → expr_walk e names depth ≡ (rule (nat_le depth 48) (TooBig (expr_place e)) >> rule_walk e names depth)
walk_out e names depth =
    ap (λ part. part.walk names depth) (whole e)
    ∙ ap (λ at. rule (nat_le depth 48) (TooBig at) >> rule_walk e names depth) (form_place part_of (out-ExprTree e))

module _ (names : Names) (depth : ℕ) where
  by_form : (e : ExprTree) (form : ExprTree-F ExprTree) → out-ExprTree e ≡ form
      → rule_walk e names depth ≡ expr_rule (form_with part_of form) names depth
  by_form e form is = ap (λ f. expr_rule (form_with part_of f) names depth) is

  pub rule_number : (at : ℕ) (n : ℤ)
      → rule_walk (exprs.Number at n) names depth ≡ expr_rule (forms.Number at n) names depth
  rule_number at n = by_form (exprs.Number at n) (forms.Number at n) (exprs.outs-Number at n)

  pub rule_flag : (at : ℕ) (flag : Bool)
      → rule_walk (exprs.Flag at flag) names depth ≡ expr_rule (forms.Flag at flag) names depth
  rule_flag at flag = by_form (exprs.Flag at flag) (forms.Flag at flag) (exprs.outs-Flag at flag)

  pub rule_name : (at : ℕ) (name : List ℕ)
      → rule_walk (exprs.Name at name) names depth ≡ expr_rule (forms.Name at name) names depth
  rule_name at name = by_form (exprs.Name at name) (forms.Name at name) (exprs.outs-Name at name)

  pub rule_call : (at : ℕ) (name : List ℕ) (args : List ExprTree)
      → rule_walk (exprs.Call at name args) names depth ≡ expr_rule (forms.Call at name (map part_of args)) names depth
  rule_call at name args = by_form (exprs.Call at name args) (forms.Call at name args) (exprs.outs-Call at name args)

  pub rule_or : (at : ℕ) (parts : List ExprTree)
      → rule_walk (exprs.Or at parts) names depth ≡ expr_rule (forms.Or at (map part_of parts)) names depth
  rule_or at parts = by_form (exprs.Or at parts) (forms.Or at parts) (exprs.outs-Or at parts)

  pub rule_and : (at : ℕ) (parts : List ExprTree)
      → rule_walk (exprs.And at parts) names depth ≡ expr_rule (forms.And at (map part_of parts)) names depth
  rule_and at parts = by_form (exprs.And at parts) (forms.And at parts) (exprs.outs-And at parts)

  pub rule_not : (at : ℕ) (part : ExprTree)
      → rule_walk (exprs.Not at part) names depth ≡ expr_rule (forms.Not at (part_of part)) names depth
  rule_not at part = by_form (exprs.Not at part) (forms.Not at part) (exprs.outs-Not at part)

  pub rule_compare : (at : ℕ) (op : CompareOp) (left : ExprTree) (right : ExprTree)
      → rule_walk (exprs.Compare at op left right) names depth ≡ expr_rule (forms.Compare at op (part_of left) (part_of right)) names depth
  rule_compare at op left right = by_form (exprs.Compare at op left right) (forms.Compare at op left right) (exprs.outs-Compare at op left right)

  pub rule_sum : (at : ℕ) (first : ExprTree) (rest : List (SumPart ExprTree))
      → rule_walk (exprs.Sum at first rest) names depth ≡ expr_rule (forms.Sum at (part_of first) (map (sum_with part_of) rest)) names depth
  rule_sum at first rest = by_form (exprs.Sum at first rest) (forms.Sum at first rest) (exprs.outs-Sum at first rest)

  pub rule_product : (at : ℕ) (first : ExprTree) (rest : List (ProductPart ExprTree))
      → rule_walk (exprs.Product at first rest) names depth ≡ expr_rule (forms.Product at (part_of first) (map (product_with part_of) rest)) names depth
  rule_product at first rest = by_form (exprs.Product at first rest) (forms.Product at first rest) (exprs.outs-Product at first rest)

  pub rule_neg : (at : ℕ) (part : ExprTree)
      → rule_walk (exprs.Neg at part) names depth ≡ expr_rule (forms.Neg at (part_of part)) names depth
  rule_neg at part = by_form (exprs.Neg at part) (forms.Neg at part) (exprs.outs-Neg at part)

  pub rule_field : (at : ℕ) (part : ExprTree) (path : List ℕ)
      → rule_walk (exprs.Field at part path) names depth ≡ field_walk at names depth (part_of part) path
  unfolding expr_rule
  rule_field at part path = by_form (exprs.Field at part path) (forms.Field at part path) (exprs.outs-Field at part path)

  pub rule_tuple : (at : ℕ) (parts : List ExprTree)
      → rule_walk (exprs.Tuple at parts) names depth ≡ tuple_walk at names depth (map part_of parts)
  unfolding expr_rule
  rule_tuple at parts = by_form (exprs.Tuple at parts) (forms.Tuple at parts) (exprs.outs-Tuple at parts)

  pub rule_if : (at : ℕ) (arms : List (IfArm ExprTree)) (otherwise : ExprTree)
      → rule_walk (exprs.If at arms otherwise) names depth ≡ if_walk at names depth (map (arm_with part_of) arms) (part_of otherwise)
  unfolding expr_rule
  rule_if at arms otherwise = by_form (exprs.If at arms otherwise) (forms.If at arms otherwise) (exprs.outs-If at arms otherwise)

  pub rule_table : (at : ℕ) (keys : List (ResultTree ExprTree)) (rows : List (TableRow ExprTree))
      → rule_walk (exprs.Table at keys rows) names depth ≡ table_walk at names depth (map (key_with part_of) keys) (map (row_with part_of) rows)
  unfolding expr_rule
  rule_table at keys rows = by_form (exprs.Table at keys rows) (forms.Table at keys rows) (exprs.outs-Table at keys rows)

  pub rule_ratio : (at : ℕ) (x : ExprTree) (y : ExprTree) (otherwise : ExprTree)
      → rule_walk (exprs.Ratio at x y otherwise) names depth ≡ expr_rule (forms.Ratio at (part_of x) (part_of y) (part_of otherwise)) names depth
  rule_ratio at x y otherwise = by_form (exprs.Ratio at x y otherwise) (forms.Ratio at x y otherwise) (exprs.outs-Ratio at x y otherwise)

  pub rule_min : (at : ℕ) (first : ExprTree) (second : ExprTree)
      → rule_walk (exprs.Min at first second) names depth ≡ expr_rule (forms.Min at (part_of first) (part_of second)) names depth
  rule_min at first second = by_form (exprs.Min at first second) (forms.Min at first second) (exprs.outs-Min at first second)

  pub rule_max : (at : ℕ) (first : ExprTree) (second : ExprTree)
      → rule_walk (exprs.Max at first second) names depth ≡ expr_rule (forms.Max at (part_of first) (part_of second)) names depth
  rule_max at first second = by_form (exprs.Max at first second) (forms.Max at first second) (exprs.outs-Max at first second)

  pub rule_clamp : (at : ℕ) (lo_at : ℕ) (lo : ℤ) (hi : ℤ) (part : ExprTree)
      → rule_walk (exprs.Clamp at lo_at lo hi part) names depth ≡ expr_rule (forms.Clamp at lo_at lo hi (part_of part)) names depth
  rule_clamp at lo_at lo hi part = by_form (exprs.Clamp at lo_at lo hi part) (forms.Clamp at lo_at lo hi part) (exprs.outs-Clamp at lo_at lo hi part)

pub ruleset named = (part_place, rule_number, rule_flag, rule_name, rule_call)

pub ruleset truths = (part_place, rule_or, rule_and, rule_not, rule_compare)

pub ruleset numbers = (part_place, rule_sum, rule_product, rule_neg, rule_ratio, rule_min, rule_max, rule_clamp)

pub ruleset composed = (part_place, rule_field, rule_tuple, rule_if, rule_table)
