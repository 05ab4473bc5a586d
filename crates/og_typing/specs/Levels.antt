-- What a definition by recursion on written expressions gives of an expression of each form.
use Rattle.std.proofs.Common.{◌≡◌, ◌∙◌, ℕ, List, [], ◌∷◌, map, refl, ap}
use Rattle.og_syntax.specs.declared.expressions.ExprTree.{ExprTree}
use Rattle.og_syntax.specs.declared.expressions.ExprTree.TheOpen.{ExprTree-F}
use Rattle.og_syntax.specs.declared.expressions.ExprTree.TheOpen as forms
use Rattle.og_syntax.specs.declared.expressions.ExprTree.TheViews.{out-ExprTree}
use Rattle.og_syntax.specs.declared.expressions.ExprTree.TheFolds.{fold-ExprTree, fold_out-ExprTree, map-ExprTree}
use Rattle.og_syntax.specs.declared.expressions.SumPart.{SumPart}
use Rattle.og_syntax.specs.declared.expressions.SumPart.TheVariants as sums
use Rattle.og_syntax.specs.declared.expressions.ProductPart.{ProductPart}
use Rattle.og_syntax.specs.declared.expressions.ProductPart.TheVariants as products
use Rattle.og_syntax.specs.declared.expressions.IfArm.{IfArm}
use Rattle.og_syntax.specs.declared.expressions.ResultTree.{ResultTree}
use Rattle.og_syntax.specs.declared.expressions.TableRow.{TableRow}

abbrev pub sum_with : {A B : Type 0} → (A → B) → SumPart A → SumPart B
sum_with f (sums.Plus a) = sums.Plus (f a)
sum_with f (sums.Minus a) = sums.Minus (f a)

abbrev pub product_with : {A B : Type 0} → (A → B) → ProductPart A → ProductPart B
product_with f (products.Times a) = products.Times (f a)
product_with f (products.Over n) = products.Over n

abbrev pub arm_with : {A B : Type 0} → (A → B) → IfArm A → IfArm B
arm_with f arm = record { cond = f arm.cond; body = f arm.body }

abbrev pub key_with : {A B : Type 0} → (A → B) → ResultTree A → ResultTree B
key_with f key = record { expr = f key.expr; ty = key.ty }

abbrev pub row_with : {A B : Type 0} → (A → B) → TableRow A → TableRow B
row_with f row = record { at = row.at; key = row.key; body = f row.body }

-- the form with something in the place of each part
abbrev pub form_with : {A B : Type 0} → (A → B) → ExprTree-F A → ExprTree-F B
form_with f (forms.Number at n) = forms.Number at n
form_with f (forms.Flag at flag) = forms.Flag at flag
form_with f (forms.Name at name) = forms.Name at name
form_with f (forms.Call at name args) = forms.Call at name (map f args)
form_with f (forms.Or at parts) = forms.Or at (map f parts)
form_with f (forms.And at parts) = forms.And at (map f parts)
form_with f (forms.Not at part) = forms.Not at (f part)
form_with f (forms.Compare at op left right) = forms.Compare at op (f left) (f right)
form_with f (forms.Sum at first rest) = forms.Sum at (f first) (map (sum_with f) rest)
form_with f (forms.Product at first rest) = forms.Product at (f first) (map (product_with f) rest)
form_with f (forms.Neg at part) = forms.Neg at (f part)
form_with f (forms.Field at part path) = forms.Field at (f part) path
form_with f (forms.Tuple at parts) = forms.Tuple at (map f parts)
form_with f (forms.If at arms otherwise) = forms.If at (map (arm_with f) arms) (f otherwise)
form_with f (forms.Table at keys rows) = forms.Table at (map (key_with f) keys) (map (row_with f) rows)
form_with f (forms.Ratio at x y otherwise) = forms.Ratio at (f x) (f y) (f otherwise)
form_with f (forms.Min at first second) = forms.Min at (f first) (f second)
form_with f (forms.Max at first second) = forms.Max at (f first) (f second)
form_with f (forms.Clamp at lo_at lo hi part) = forms.Clamp at lo_at lo hi (f part)

-- the lists of parts that a form has, of each kind
abbrev sums_of : {A : Type 0} → ExprTree-F A → List (SumPart A)
sums_of (forms.Sum at first rest) = rest
sums_of _ = []

abbrev products_of : {A : Type 0} → ExprTree-F A → List (ProductPart A)
products_of (forms.Product at first rest) = rest
products_of _ = []

abbrev arms_of : {A : Type 0} → ExprTree-F A → List (IfArm A)
arms_of (forms.If at arms otherwise) = arms
arms_of _ = []

abbrev keys_of : {A : Type 0} → ExprTree-F A → List (ResultTree A)
keys_of (forms.Table at keys rows) = keys
keys_of _ = []

abbrev rows_of : {A : Type 0} → ExprTree-F A → List (TableRow A)
rows_of (forms.Table at keys rows) = rows
rows_of _ = []

module _ {A B : Type 0} (f : A → B) (at : ℕ) where
  sums_level : (e : A) (rest : List (SumPart A))
      → sums_of (map-ExprTree A B f (forms.Sum at e rest)) ≡ map (sum_with f) rest
  sums_level e [] = refl
  sums_level e (sums.Plus a ∷ rest) = ap (λ l. sums.Plus (f a) ∷ l) (sums_level e rest)
  sums_level e (sums.Minus a ∷ rest) = ap (λ l. sums.Minus (f a) ∷ l) (sums_level e rest)

  products_level : (e : A) (rest : List (ProductPart A))
      → products_of (map-ExprTree A B f (forms.Product at e rest)) ≡ map (product_with f) rest
  products_level e [] = refl
  products_level e (products.Times a ∷ rest) = ap (λ l. products.Times (f a) ∷ l) (products_level e rest)
  products_level e (products.Over n ∷ rest) = ap (λ l. products.Over n ∷ l) (products_level e rest)

  arms_level : (e : A) (arms : List (IfArm A))
      → arms_of (map-ExprTree A B f (forms.If at arms e)) ≡ map (arm_with f) arms
  arms_level e [] = refl
  arms_level e (arm ∷ arms) = ap (λ l. arm_with f arm ∷ l) (arms_level e arms)

  keys_level : (rows : List (TableRow A)) (keys : List (ResultTree A))
      → keys_of (map-ExprTree A B f (forms.Table at keys rows)) ≡ map (key_with f) keys
  keys_level rows [] = refl
  keys_level rows (key ∷ keys) = ap (λ l. key_with f key ∷ l) (keys_level rows keys)

  rows_level : (keys : List (ResultTree A)) (rows : List (TableRow A))
      → rows_of (map-ExprTree A B f (forms.Table at keys rows)) ≡ map (row_with f) rows
  rows_level keys [] = refl
  rows_level keys (row ∷ rows) = ap (λ l. row_with f row ∷ l) (rows_level keys rows)

pub level : {A B : Type 0} (f : A → B) (form : ExprTree-F A) → map-ExprTree A B f form ≡ form_with f form
level f (forms.Number at n) = refl
level f (forms.Flag at flag) = refl
level f (forms.Name at name) = refl
level f (forms.Call at name args) = refl
level f (forms.Or at parts) = refl
level f (forms.And at parts) = refl
level f (forms.Not at part) = refl
level f (forms.Compare at op left right) = refl
level f (forms.Sum at first rest) = ap (forms.Sum at (f first)) (sums_level f at first rest)
level f (forms.Product at first rest) = ap (forms.Product at (f first)) (products_level f at first rest)
level f (forms.Neg at part) = refl
level f (forms.Field at part path) = refl
level f (forms.Tuple at parts) = refl
level f (forms.If at arms otherwise) = ap (λ l. forms.If at l (f otherwise)) (arms_level f at otherwise arms)
level f (forms.Table at keys rows) = λ i. forms.Table at (keys_level f at rows keys i) (rows_level f at keys rows i)
level f (forms.Ratio at x y otherwise) = refl
level f (forms.Min at first second) = refl
level f (forms.Max at first second) = refl
level f (forms.Clamp at lo_at lo hi part) = refl

-- what a fold gives of an expression, by its form
pub fold_of_form : {A : Type 0} (step : ExprTree-F A → A) (e : ExprTree)
    → fold-ExprTree A step e ≡ step (form_with (fold-ExprTree A step) (out-ExprTree e))
fold_of_form {A} step e = fold_out-ExprTree A step e ∙ ap step (level (fold-ExprTree A step) (out-ExprTree e))
