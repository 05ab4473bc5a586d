-- Where expressions begin.
use Rattle.std.specs.Prelude.{ℕ}
use Rattle.og_syntax.specs.declared.expressions.ExprTree.{ExprTree}
use Rattle.og_syntax.specs.declared.expressions.ExprTree.TheOpen.{ExprTree-F}
use Rattle.og_syntax.specs.declared.expressions.ExprTree.TheOpen as expr_level
use Rattle.og_syntax.specs.declared.expressions.ExprTree.TheViews.{out-ExprTree}

-- the place of an expression of each form
abbrev pub place_step : {E : Type 0} → ExprTree-F E → ℕ
place_step (expr_level.Number at number) = at
place_step (expr_level.Flag at flag) = at
place_step (expr_level.Name at name) = at
place_step (expr_level.Call at name args) = at
place_step (expr_level.Or at parts) = at
place_step (expr_level.And at parts) = at
place_step (expr_level.Not at part) = at
place_step (expr_level.Compare at op left right) = at
place_step (expr_level.Sum at first rest) = at
place_step (expr_level.Product at first rest) = at
place_step (expr_level.Neg at part) = at
place_step (expr_level.Field at part path) = at
place_step (expr_level.Tuple at parts) = at
place_step (expr_level.If at arms otherwise) = at
place_step (expr_level.Table at keys rows) = at
place_step (expr_level.Ratio at x y otherwise) = at
place_step (expr_level.Min at first second) = at
place_step (expr_level.Max at first second) = at
place_step (expr_level.Clamp at lo_at lo hi part) = at

-- The place where the expression begins, without the brackets round it that leave no node.
abbrev pub expr_place : ExprTree → ℕ
expr_place e = place_step (out-ExprTree e)
