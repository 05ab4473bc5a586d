-- The canonical text of expressions. An expression has a text and a level, which says how tightly its operation
-- binds: `or` 1, `and` 2, `not` 3, a comparison 4, a sum 5, a product 6, a literal number and a minus before an
-- expression 7, all else 8. The grammar asks at each place for some level at the least, and round brackets stand
-- only where an expression's level is below it.
--
-- `expr_step` is the rule for one form, whose parts have their levels and texts already.
use Rattle.std.specs.Prelude.{ℕ, nat_lt, if◌then◌else◌, List, [], ◌∷◌, ◌++◌, map, flat_map}
use Rattle.og_lex.specs.declared.token.Word.TheVariants as words
use Rattle.og_lex.specs.declared.token.Mark.{Mark}
use Rattle.og_lex.specs.declared.token.Mark.TheVariants as marks
use Rattle.og_syntax.specs.declared.expressions.ExprTree.{ExprTree}
use Rattle.og_syntax.specs.declared.expressions.ExprTree.TheOpen.{ExprTree-F}
use Rattle.og_syntax.specs.declared.expressions.ExprTree.TheOpen as expr_level
use Rattle.og_syntax.specs.declared.expressions.ExprTree.TheFolds.{fold-ExprTree}
use Rattle.og_syntax.specs.declared.expressions.CompareOp.{CompareOp}
use Rattle.og_syntax.specs.declared.expressions.CompareOp.TheVariants as ops
use Rattle.og_syntax.specs.declared.expressions.SumPart.{SumPart}
use Rattle.og_syntax.specs.declared.expressions.SumPart.TheVariants as sums
use Rattle.og_syntax.specs.declared.expressions.ProductPart.{ProductPart}
use Rattle.og_syntax.specs.declared.expressions.ProductPart.TheVariants as products
use Rattle.og_syntax.specs.declared.expressions.IfArm.{IfArm}
use Rattle.og_syntax.specs.declared.expressions.ResultTree.{ResultTree}
use Rattle.og_syntax.specs.declared.expressions.TableRow.{TableRow}
use Rattle.og_canonical.specs.Tokens.{spaced, mark, word, number, whole, joined, commas, in_parens, in_braces}
use Rattle.og_canonical.specs.Types.{range_text, ty_text}
use Rattle.og_canonical.specs.Values.{key_text}

-- a text, and how tightly its operation binds: the higher, the tighter
pub record Shown : Type 0 where
  pub level : ℕ
  pub text : List ℕ

-- the text where at least this level is asked for
unfoldable pub at_least : ℕ → Shown → List ℕ
at_least level shown = if nat_lt shown.level level then in_parens shown.text else shown.text

-- where any expression may stand
abbrev pub anywhere : Shown → List ℕ
anywhere = at_least 1

abbrev pub op_mark : CompareOp → Mark
op_mark ops.Equal = marks.Equal
op_mark ops.Differs = marks.Differs
op_mark ops.Less = marks.Less
op_mark ops.AtMost = marks.AtMost
op_mark ops.Greater = marks.Greater
op_mark ops.AtLeast = marks.AtLeast

-- ---- parts of expressions, where `text` gives what stands for an expression in them

abbrev pub sum_part : {E : Type 0} → (E → List ℕ) → SumPart E → List ℕ
sum_part text (sums.Plus part) = mark marks.Plus ++ text part
sum_part text (sums.Minus part) = mark marks.Minus ++ text part

abbrev pub product_part : {E : Type 0} → (E → List ℕ) → ProductPart E → List ℕ
product_part text (products.Times part) = mark marks.Star ++ text part
product_part text (products.Over divisor) = mark marks.Slash ++ number divisor

abbrev pub arm_text : {E : Type 0} → (E → List ℕ) → IfArm E → List ℕ
arm_text text arm = text arm.cond ++ word words.Then ++ text arm.body

abbrev pub typed_text : {E : Type 0} → (E → List ℕ) → ResultTree E → List ℕ
typed_text text typed = text typed.expr ++ mark marks.Colon ++ ty_text typed.ty

abbrev pub table_row_text : {E : Type 0} → (E → List ℕ) → TableRow E → List ℕ
table_row_text text row = key_text row.key ++ mark marks.Arrow ++ text row.body ++ mark marks.Semicolon

-- a component, a component of it, and so on
abbrev pub path_text : List ℕ → List ℕ
path_text path = flat_map (λ component. mark marks.Dot ++ number component) path

-- ---- expressions

-- what no operation is the outermost of
abbrev pub tight : List ℕ → Shown
tight text = record { level = 8; text = text }

abbrev pub expr_step : ExprTree-F Shown → Shown
expr_step (expr_level.Number at n) = record { level = 7; text = whole n }
expr_step (expr_level.Flag at flag) = tight (if flag then word words.True else word words.False)
expr_step (expr_level.Name at name) = tight (spaced name)
expr_step (expr_level.Call at name args) = tight (spaced name ++ in_parens (commas (map anywhere args)))
expr_step (expr_level.Or at parts) = record { level = 1; text = joined (word words.Or) (map (at_least 2) parts) }
expr_step (expr_level.And at parts) = record { level = 2; text = joined (word words.And) (map (at_least 3) parts) }
expr_step (expr_level.Not at part) = record { level = 3; text = word words.Not ++ at_least 4 part }
expr_step (expr_level.Compare at op left right) =
    record { level = 4; text = at_least 5 left ++ mark (op_mark op) ++ at_least 5 right }
expr_step (expr_level.Sum at first rest) =
    record { level = 5; text = at_least 6 first ++ flat_map (sum_part (at_least 6)) rest }
expr_step (expr_level.Product at first rest) =
    record { level = 6; text = at_least 7 first ++ flat_map (product_part (at_least 7)) rest }
expr_step (expr_level.Neg at part) = record { level = 7; text = mark marks.Minus ++ at_least 8 part }
expr_step (expr_level.Field at part path) = tight (at_least 8 part ++ path_text path)
expr_step (expr_level.Tuple at parts) = tight (in_parens (commas (map anywhere parts)))
expr_step (expr_level.If at arms otherwise) =
    tight (word words.If ++ joined (word words.Elif) (map (arm_text anywhere) arms)
    ++ word words.Else ++ anywhere otherwise ++ word words.End)
expr_step (expr_level.Table at keys rows) =
    tight (word words.Table ++ in_parens (commas (map (typed_text anywhere) keys))
    ++ in_braces (flat_map (table_row_text anywhere) rows))
expr_step (expr_level.Ratio at x y otherwise) =
    tight (word words.Ratio ++ in_parens (commas (anywhere x ∷ anywhere y ∷ anywhere otherwise ∷ [])))
expr_step (expr_level.Min at first second) =
    tight (word words.Min ++ in_parens (commas (anywhere first ∷ anywhere second ∷ [])))
expr_step (expr_level.Max at first second) =
    tight (word words.Max ++ in_parens (commas (anywhere first ∷ anywhere second ∷ [])))
expr_step (expr_level.Clamp at lo_at lo hi part) =
    tight (word words.Clamp ++ range_text lo hi ++ in_parens (anywhere part))

abbrev pub shown : ExprTree → Shown
shown = fold-ExprTree Shown expr_step

abbrev pub expr_text : ExprTree → List ℕ
expr_text e = anywhere (shown e)

abbrev pub exprs_text : List ExprTree → List ℕ
exprs_text es = commas (map expr_text es)

abbrev pub result_text : ResultTree ExprTree → List ℕ
result_text = typed_text expr_text

abbrev pub results_text : List (ResultTree ExprTree) → List ℕ
results_text results = commas (map result_text results)
