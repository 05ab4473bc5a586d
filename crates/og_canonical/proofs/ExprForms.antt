-- What an expression is shown as, form by form.
use Rattle.std.proofs.Common.{◌≡◌, ℕ, ℤ, Bool, if◌then◌else◌, List, [], ◌∷◌, ◌++◌, map, ap, sym, refl, ◌∙◌, append_assoc}
use Rattle.std.specs.Prelude.{flat_map}
use Rattle.std.proofs.lemmas.Simd.{map-map}
use Rattle.og_lex.specs.declared.token.Word.TheVariants as words
use Rattle.og_lex.specs.declared.token.Mark.TheVariants as marks
use Rattle.og_syntax.specs.declared.expressions.ExprTree.{ExprTree}
use Rattle.og_syntax.specs.declared.expressions.ExprTree.TheOpen.{ExprTree-F}
use Rattle.og_syntax.specs.declared.expressions.ExprTree.TheOpen as expr_level
use Rattle.og_syntax.specs.declared.expressions.ExprTree.TheFolds.{fold-roll-ExprTree, map-ExprTree}
use Rattle.og_syntax.specs.declared.expressions.ExprTree.TheVariants as exprs
use Rattle.og_syntax.specs.declared.expressions.CompareOp.{CompareOp}
use Rattle.og_syntax.specs.declared.expressions.SumPart.{SumPart}
use Rattle.og_syntax.specs.declared.expressions.SumPart.TheVariants as sums
use Rattle.og_syntax.specs.declared.expressions.ProductPart.{ProductPart}
use Rattle.og_syntax.specs.declared.expressions.ProductPart.TheVariants as products
use Rattle.og_syntax.specs.declared.expressions.IfArm.{IfArm}
use Rattle.og_syntax.specs.declared.expressions.ResultTree.{ResultTree}
use Rattle.og_syntax.specs.declared.expressions.TableRow.{TableRow}
use Rattle.og_canonical.specs.Tokens.{spaced, mark, word, number, whole, joined, commas, in_parens, in_braces}
use Rattle.og_canonical.specs.Types.{range_text}
use Rattle.og_canonical.specs.Expressions.{Shown, at_least, anywhere, op_mark, tight, expr_step, shown}
use Rattle.og_canonical.specs.Expressions.{expr_text, exprs_text, results_text, path_text, sum_part, product_part}
use Rattle.og_canonical.specs.Expressions.{arm_text, typed_text, table_row_text}

-- the text at some level, with the level that it has
abbrev at_level : ℕ → List ℕ → Shown
at_level level text = record { level = level; text = text }

-- one level of an expression, with its parts shown
abbrev over_parts : ExprTree-F ExprTree → ExprTree-F Shown
over_parts = map-ExprTree ExprTree Shown shown

-- ---- the parts that a level has, of each kind

abbrev sums_of : ExprTree-F Shown → List (SumPart Shown)
sums_of (expr_level.Sum at first rest) = rest
sums_of _ = []

abbrev products_of : ExprTree-F Shown → List (ProductPart Shown)
products_of (expr_level.Product at first rest) = rest
products_of _ = []

abbrev arms_of : ExprTree-F Shown → List (IfArm Shown)
arms_of (expr_level.If at arms otherwise) = arms
arms_of _ = []

abbrev keys_of : ExprTree-F Shown → List (ResultTree Shown)
keys_of (expr_level.Table at keys rows) = keys
keys_of _ = []

abbrev rows_of : ExprTree-F Shown → List (TableRow Shown)
rows_of (expr_level.Table at keys rows) = rows
rows_of _ = []

-- ---- and their texts

sums_text : (at : ℕ) (first : ExprTree) (rest : List (SumPart ExprTree))
    → flat_map (sum_part (at_least 6)) (sums_of (over_parts (expr_level.Sum at first rest)))
    ≡ flat_map (sum_part (λ e. at_least 6 (shown e))) rest
sums_text at first [] = refl
sums_text at first (sums.Plus e ∷ rest) =
    ap (λ texts. (mark marks.Plus ++ at_least 6 (shown e)) ++ texts) (sums_text at first rest)
sums_text at first (sums.Minus e ∷ rest) =
    ap (λ texts. (mark marks.Minus ++ at_least 6 (shown e)) ++ texts) (sums_text at first rest)

products_text : (at : ℕ) (first : ExprTree) (rest : List (ProductPart ExprTree))
    → flat_map (product_part (at_least 7)) (products_of (over_parts (expr_level.Product at first rest)))
    ≡ flat_map (product_part (λ e. at_least 7 (shown e))) rest
products_text at first [] = refl
products_text at first (products.Times e ∷ rest) =
    ap (λ texts. (mark marks.Star ++ at_least 7 (shown e)) ++ texts) (products_text at first rest)
products_text at first (products.Over n ∷ rest) =
    ap (λ texts. (mark marks.Slash ++ number n) ++ texts) (products_text at first rest)

arms_text : (at : ℕ) (arms : List (IfArm ExprTree)) (otherwise : ExprTree)
    → map (arm_text anywhere) (arms_of (over_parts (expr_level.If at arms otherwise))) ≡ map (arm_text expr_text) arms
arms_text at [] otherwise = refl
arms_text at (arm ∷ arms) otherwise = ap (λ texts. arm_text expr_text arm ∷ texts) (arms_text at arms otherwise)

keys_text : (at : ℕ) (keys : List (ResultTree ExprTree)) (rows : List (TableRow ExprTree))
    → map (typed_text anywhere) (keys_of (over_parts (expr_level.Table at keys rows))) ≡ map (typed_text expr_text) keys
keys_text at [] rows = refl
keys_text at (key ∷ keys) rows = ap (λ texts. typed_text expr_text key ∷ texts) (keys_text at keys rows)

rows_text : (at : ℕ) (keys : List (ResultTree ExprTree)) (rows : List (TableRow ExprTree))
    → flat_map (table_row_text anywhere) (rows_of (over_parts (expr_level.Table at keys rows)))
    ≡ flat_map (table_row_text expr_text) rows
rows_text at keys [] = refl
rows_text at keys (row ∷ rows) = ap (λ texts. table_row_text expr_text row ++ texts) (rows_text at keys rows)

-- ---- the forms

pub shown_number : (at : ℕ) (n : ℤ) → shown (exprs.Number at n) ≡ at_level 7 (whole n)
shown_number at n =
    ap shown (sym (exprs.rolls-Number at n)) ∙ fold-roll-ExprTree Shown expr_step (expr_level.Number at n)

pub shown_flag : (at : ℕ) (b : Bool) → shown (exprs.Flag at b) ≡ tight (if b then word words.True else word words.False)
shown_flag at b = ap shown (sym (exprs.rolls-Flag at b)) ∙ fold-roll-ExprTree Shown expr_step (expr_level.Flag at b)

pub shown_name : (at : ℕ) (name : List ℕ) → shown (exprs.Name at name) ≡ tight (spaced name)
shown_name at name =
    ap shown (sym (exprs.rolls-Name at name)) ∙ fold-roll-ExprTree Shown expr_step (expr_level.Name at name)

pub shown_call : (at : ℕ) (name : List ℕ) (es : List ExprTree)
    → shown (exprs.Call at name es) ≡ tight (spaced name ++ in_parens (exprs_text es))
shown_call at name es =
    ap shown (sym (exprs.rolls-Call at name es)) ∙ fold-roll-ExprTree Shown expr_step (expr_level.Call at name es)
    ∙ ap (λ texts. tight (spaced name ++ in_parens (commas texts))) (map-map anywhere shown es)

pub shown_or : (at : ℕ) (es : List ExprTree)
    → shown (exprs.Or at es) ≡ at_level 1 (joined (word words.Or) (map (λ e. at_least 2 (shown e)) es))
shown_or at es =
    ap shown (sym (exprs.rolls-Or at es)) ∙ fold-roll-ExprTree Shown expr_step (expr_level.Or at es)
    ∙ ap (λ texts. at_level 1 (joined (word words.Or) texts)) (map-map (at_least 2) shown es)

pub shown_and : (at : ℕ) (es : List ExprTree)
    → shown (exprs.And at es) ≡ at_level 2 (joined (word words.And) (map (λ e. at_least 3 (shown e)) es))
shown_and at es =
    ap shown (sym (exprs.rolls-And at es)) ∙ fold-roll-ExprTree Shown expr_step (expr_level.And at es)
    ∙ ap (λ texts. at_level 2 (joined (word words.And) texts)) (map-map (at_least 3) shown es)

pub shown_not : (at : ℕ) (e : ExprTree) → shown (exprs.Not at e) ≡ at_level 3 (word words.Not ++ at_least 4 (shown e))
shown_not at e = ap shown (sym (exprs.rolls-Not at e)) ∙ fold-roll-ExprTree Shown expr_step (expr_level.Not at e)

pub shown_compare : (at : ℕ) (op : CompareOp) (left right : ExprTree)
    → shown (exprs.Compare at op left right) ≡ at_level 4 (at_least 5 (shown left) ++ mark (op_mark op) ++ at_least 5 (shown right))
shown_compare at op left right =
    ap shown (sym (exprs.rolls-Compare at op left right))
    ∙ fold-roll-ExprTree Shown expr_step (expr_level.Compare at op left right)

pub shown_sum : (at : ℕ) (first : ExprTree) (rest : List (SumPart ExprTree))
    → shown (exprs.Sum at first rest) ≡ at_level 5 (at_least 6 (shown first) ++ flat_map (sum_part (λ e. at_least 6 (shown e))) rest)
shown_sum at first rest =
    ap shown (sym (exprs.rolls-Sum at first rest))
    ∙ fold-roll-ExprTree Shown expr_step (expr_level.Sum at first rest)
    ∙ ap (λ texts. at_level 5 (at_least 6 (shown first) ++ texts)) (sums_text at first rest)

pub shown_product : (at : ℕ) (first : ExprTree) (rest : List (ProductPart ExprTree))
    → shown (exprs.Product at first rest) ≡ at_level 6 (at_least 7 (shown first) ++ flat_map (product_part (λ e. at_least 7 (shown e))) rest)
shown_product at first rest =
    ap shown (sym (exprs.rolls-Product at first rest))
    ∙ fold-roll-ExprTree Shown expr_step (expr_level.Product at first rest)
    ∙ ap (λ texts. at_level 6 (at_least 7 (shown first) ++ texts)) (products_text at first rest)

pub shown_neg : (at : ℕ) (e : ExprTree) → shown (exprs.Neg at e) ≡ at_level 7 (mark marks.Minus ++ at_least 8 (shown e))
shown_neg at e = ap shown (sym (exprs.rolls-Neg at e)) ∙ fold-roll-ExprTree Shown expr_step (expr_level.Neg at e)

pub shown_field : (at : ℕ) (e : ExprTree) (path : List ℕ)
    → shown (exprs.Field at e path) ≡ tight (at_least 8 (shown e) ++ path_text path)
shown_field at e path =
    ap shown (sym (exprs.rolls-Field at e path)) ∙ fold-roll-ExprTree Shown expr_step (expr_level.Field at e path)

pub shown_tuple : (at : ℕ) (es : List ExprTree) → shown (exprs.Tuple at es) ≡ tight (in_parens (exprs_text es))
shown_tuple at es =
    ap shown (sym (exprs.rolls-Tuple at es)) ∙ fold-roll-ExprTree Shown expr_step (expr_level.Tuple at es)
    ∙ ap (λ texts. tight (in_parens (commas texts))) (map-map anywhere shown es)

pub shown_if : (at : ℕ) (arms : List (IfArm ExprTree)) (otherwise : ExprTree)
    → shown (exprs.If at arms otherwise) ≡ tight (word words.If ++ joined (word words.Elif) (map (arm_text expr_text) arms)
    ++ word words.Else ++ expr_text otherwise ++ word words.End)
shown_if at arms otherwise =
    ap shown (sym (exprs.rolls-If at arms otherwise))
    ∙ fold-roll-ExprTree Shown expr_step (expr_level.If at arms otherwise)
    ∙ ap (λ texts. tight (word words.If ++ joined (word words.Elif) texts ++ word words.Else ++ expr_text otherwise ++ word words.End))
    (arms_text at arms otherwise)

pub shown_table : (at : ℕ) (keys : List (ResultTree ExprTree)) (rows : List (TableRow ExprTree))
    → shown (exprs.Table at keys rows) ≡ tight (word words.Table ++ in_parens (results_text keys)
    ++ in_braces (flat_map (table_row_text expr_text) rows))
shown_table at keys rows =
    ap shown (sym (exprs.rolls-Table at keys rows))
    ∙ fold-roll-ExprTree Shown expr_step (expr_level.Table at keys rows)
    ∙ (λ i. tight (word words.Table ++ in_parens (commas (keys_text at keys rows i)) ++ in_braces (rows_text at keys rows i)))

pub shown_ratio : (at : ℕ) (x y otherwise : ExprTree)
    → shown (exprs.Ratio at x y otherwise) ≡ tight (word words.Ratio
    ++ in_parens (commas (expr_text x ∷ expr_text y ∷ expr_text otherwise ∷ [])))
shown_ratio at x y otherwise =
    ap shown (sym (exprs.rolls-Ratio at x y otherwise))
    ∙ fold-roll-ExprTree Shown expr_step (expr_level.Ratio at x y otherwise)

pub shown_min : (at : ℕ) (first second : ExprTree)
    → shown (exprs.Min at first second) ≡ tight (word words.Min
    ++ in_parens (commas (expr_text first ∷ expr_text second ∷ [])))
shown_min at first second =
    ap shown (sym (exprs.rolls-Min at first second))
    ∙ fold-roll-ExprTree Shown expr_step (expr_level.Min at first second)

pub shown_max : (at : ℕ) (first second : ExprTree)
    → shown (exprs.Max at first second) ≡ tight (word words.Max
    ++ in_parens (commas (expr_text first ∷ expr_text second ∷ [])))
shown_max at first second =
    ap shown (sym (exprs.rolls-Max at first second))
    ∙ fold-roll-ExprTree Shown expr_step (expr_level.Max at first second)

pub shown_clamp : (at lo_at : ℕ) (lo hi : ℤ) (e : ExprTree)
    → shown (exprs.Clamp at lo_at lo hi e) ≡ tight (word words.Clamp ++ range_text lo hi ++ in_parens (expr_text e))
shown_clamp at lo_at lo hi e =
    ap shown (sym (exprs.rolls-Clamp at lo_at lo hi e))
    ∙ fold-roll-ExprTree Shown expr_step (expr_level.Clamp at lo_at lo hi e)

pub ruleset forms = (
  append_assoc,
  shown_number,
  shown_flag,
  shown_name,
  shown_call,
  shown_or,
  shown_and,
  shown_not,
  shown_compare,
  shown_sum,
  shown_product,
  shown_neg,
  shown_field,
  shown_tuple,
  shown_if,
  shown_table,
  shown_ratio,
  shown_min,
  shown_max,
  shown_clamp,
)
