-- Induction over written expressions: a fact holds of each if it holds of each form whose parts it holds of.
use Rattle.std.proofs.Common.{List, [], ◌∷◌, map, sym, subst}
use Rattle.std.specs.List.{AllByRecursion}
use Rattle.og_syntax.specs.declared.expressions.ExprTree.{ExprTree}
use Rattle.og_syntax.specs.declared.expressions.ExprTree.TheOpen.{ExprTree-F}
use Rattle.og_syntax.specs.declared.expressions.ExprTree.TheOpen as forms
use Rattle.og_syntax.specs.declared.expressions.ExprTree.TheViews.{roll-ExprTree}
use Rattle.og_syntax.specs.declared.expressions.ExprTree.TheFolds.{ind-ExprTree, map-ExprTree}
use Rattle.og_syntax.specs.declared.expressions.SumPart.{SumPart}
use Rattle.og_syntax.specs.declared.expressions.SumPart.TheVariants as sums
use Rattle.og_syntax.specs.declared.expressions.ProductPart.{ProductPart}
use Rattle.og_syntax.specs.declared.expressions.ProductPart.TheVariants as products
use Rattle.og_syntax.specs.declared.expressions.IfArm.{IfArm}
use Rattle.og_syntax.specs.declared.expressions.ResultTree.{ResultTree}
use Rattle.og_syntax.specs.declared.expressions.TableRow.{TableRow}
use Rattle.og_typing.specs.Levels.{form_with, sum_with, product_with, arm_with, key_with, row_with, level}

-- the fact, of a part of each kind

abbrev pub OfSum : {A : Type 0} → (A → Type 0) → SumPart A → Type 0
OfSum P (sums.Plus a) = P a
OfSum P (sums.Minus a) = P a

abbrev pub OfProduct : {A : Type 0} → (A → Type 0) → ProductPart A → Type 0
OfProduct P (products.Times a) = P a
OfProduct P (products.Over n) = Unit {0}

abbrev pub OfArm : {A : Type 0} → (A → Type 0) → IfArm A → Type 0
OfArm P arm = P arm.cond × P arm.body

abbrev pub OfKey : {A : Type 0} → (A → Type 0) → ResultTree A → Type 0
OfKey P key = P key.expr

abbrev pub OfRow : {A : Type 0} → (A → Type 0) → TableRow A → Type 0
OfRow P row = P row.body

-- the fact holds of each part
abbrev pub PartsOf : {A : Type 0} → (A → Type 0) → ExprTree-F A → Type 0
PartsOf P (forms.Number at n) = Unit {0}
PartsOf P (forms.Flag at flag) = Unit {0}
PartsOf P (forms.Name at name) = Unit {0}
PartsOf P (forms.Call at name args) = AllByRecursion P args
PartsOf P (forms.Or at parts) = AllByRecursion P parts
PartsOf P (forms.And at parts) = AllByRecursion P parts
PartsOf P (forms.Not at part) = P part
PartsOf P (forms.Compare at op left right) = P left × P right
PartsOf P (forms.Sum at first rest) = P first × AllByRecursion (OfSum P) rest
PartsOf P (forms.Product at first rest) = P first × AllByRecursion (OfProduct P) rest
PartsOf P (forms.Neg at part) = P part
PartsOf P (forms.Field at part path) = P part
PartsOf P (forms.Tuple at parts) = AllByRecursion P parts
PartsOf P (forms.If at arms otherwise) = AllByRecursion (OfArm P) arms × P otherwise
PartsOf P (forms.Table at keys rows) = AllByRecursion (OfKey P) keys × AllByRecursion (OfRow P) rows
PartsOf P (forms.Ratio at x y otherwise) = P x × P y × P otherwise
PartsOf P (forms.Min at first second) = P first × P second
PartsOf P (forms.Max at first second) = P first × P second
PartsOf P (forms.Clamp at lo_at lo hi part) = P part

-- each of the parts beside its proof

parts : {A : Type 0} (P : A → Type 0) (es : List ((e : A) × P e)) → AllByRecursion P (map (λ e. e.0) es)
parts P [] = tt
parts P (e ∷ es) = (e.1, parts P es)

sum_parts : {A : Type 0} (P : A → Type 0) (rest : List (SumPart ((e : A) × P e)))
    → AllByRecursion (OfSum P) (map (sum_with (λ e. e.0)) rest)
sum_parts P [] = tt
sum_parts P (sums.Plus e ∷ rest) = (e.1, sum_parts P rest)
sum_parts P (sums.Minus e ∷ rest) = (e.1, sum_parts P rest)

product_parts : {A : Type 0} (P : A → Type 0) (rest : List (ProductPart ((e : A) × P e)))
    → AllByRecursion (OfProduct P) (map (product_with (λ e. e.0)) rest)
product_parts P [] = tt
product_parts P (products.Times e ∷ rest) = (e.1, product_parts P rest)
product_parts P (products.Over n ∷ rest) = (tt, product_parts P rest)

arm_parts : {A : Type 0} (P : A → Type 0) (arms : List (IfArm ((e : A) × P e)))
    → AllByRecursion (OfArm P) (map (arm_with (λ e. e.0)) arms)
arm_parts P [] = tt
arm_parts P (arm ∷ arms) = ((arm.cond.1, arm.body.1), arm_parts P arms)

key_parts : {A : Type 0} (P : A → Type 0) (keys : List (ResultTree ((e : A) × P e)))
    → AllByRecursion (OfKey P) (map (key_with (λ e. e.0)) keys)
key_parts P [] = tt
key_parts P (key ∷ keys) = (key.expr.1, key_parts P keys)

row_parts : {A : Type 0} (P : A → Type 0) (rows : List (TableRow ((e : A) × P e)))
    → AllByRecursion (OfRow P) (map (row_with (λ e. e.0)) rows)
row_parts P [] = tt
row_parts P (row ∷ rows) = (row.body.1, row_parts P rows)

parts_of : {A : Type 0} (P : A → Type 0) (form : ExprTree-F ((e : A) × P e)) → PartsOf P (form_with (λ e. e.0) form)
parts_of P (forms.Number at n) = tt
parts_of P (forms.Flag at flag) = tt
parts_of P (forms.Name at name) = tt
parts_of P (forms.Call at name args) = parts P args
parts_of P (forms.Or at es) = parts P es
parts_of P (forms.And at es) = parts P es
parts_of P (forms.Not at part) = part.1
parts_of P (forms.Compare at op left right) = (left.1, right.1)
parts_of P (forms.Sum at first rest) = (first.1, sum_parts P rest)
parts_of P (forms.Product at first rest) = (first.1, product_parts P rest)
parts_of P (forms.Neg at part) = part.1
parts_of P (forms.Field at part path) = part.1
parts_of P (forms.Tuple at es) = parts P es
parts_of P (forms.If at arms otherwise) = (arm_parts P arms, otherwise.1)
parts_of P (forms.Table at keys rows) = (key_parts P keys, row_parts P rows)
parts_of P (forms.Ratio at x y otherwise) = (x.1, y.1, otherwise.1)
parts_of P (forms.Min at first second) = (first.1, second.1)
parts_of P (forms.Max at first second) = (first.1, second.1)
parts_of P (forms.Clamp at lo_at lo hi part) = part.1

pub expr_induction : (P : ExprTree → Type 0)
    → ((form : ExprTree-F ExprTree) → PartsOf P form → P (roll-ExprTree form)) → (e : ExprTree) → P e
expr_induction P at_form = ind-ExprTree P (λ x y is. subst (λ z. P (roll-ExprTree z)) is (step y))
  where
    step : (y : ExprTree-F ((e : ExprTree) × P e))
        → P (roll-ExprTree (map-ExprTree ((e : ExprTree) × P e) ExprTree (λ e. e.0) y))
    step y =
        subst (λ form. P (roll-ExprTree form)) (sym (level (λ e. e.0) y))
        (at_form (form_with (λ e. e.0) y) (parts_of P y))
