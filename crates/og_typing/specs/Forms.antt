-- Expressions by their forms.
use Rattle.std.specs.Prelude.{Bool, true, false}
use Rattle.og_syntax.specs.declared.expressions.ExprTree.{ExprTree}
use Rattle.og_syntax.specs.declared.expressions.ExprTree.TheOpen.{ExprTree-F}
use Rattle.og_syntax.specs.declared.expressions.ExprTree.TheOpen as forms
use Rattle.og_syntax.specs.declared.expressions.ExprTree.TheViews.{out-ExprTree}

abbrev pub is_truth_form : {A : Type 0} → ExprTree-F A → Bool
is_truth_form (forms.Or at parts) = true
is_truth_form (forms.And at parts) = true
is_truth_form (forms.Not at part) = true
is_truth_form (forms.Compare at op left right) = true
is_truth_form _ = false

-- `or`, `and`, `not`, or a comparison
abbrev pub is_truth : ExprTree → Bool
is_truth e = is_truth_form (out-ExprTree e)

abbrev pub is_number_form : {A : Type 0} → ExprTree-F A → Bool
is_number_form (forms.Sum at first rest) = true
is_number_form (forms.Product at first rest) = true
is_number_form (forms.Neg at part) = true
is_number_form (forms.Ratio at x y otherwise) = true
is_number_form (forms.Min at first second) = true
is_number_form (forms.Max at first second) = true
is_number_form (forms.Clamp at lo_at lo hi part) = true
is_number_form _ = false

-- an operation on numbers
abbrev pub is_number : ExprTree → Bool
is_number e = is_number_form (out-ExprTree e)

abbrev pub is_composed_form : {A : Type 0} → ExprTree-F A → Bool
is_composed_form (forms.Field at part path) = true
is_composed_form (forms.Tuple at parts) = true
is_composed_form (forms.If at arms otherwise) = true
is_composed_form (forms.Table at keys rows) = true
is_composed_form _ = false

-- a component, a tuple, or a choice by conditions or keys
abbrev pub is_composed : ExprTree → Bool
is_composed e = is_composed_form (out-ExprTree e)
