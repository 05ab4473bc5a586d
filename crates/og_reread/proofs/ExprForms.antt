-- Expressions of one form whose parts are the same but for their places.
use Rattle.std.proofs.Common.{◌≡◌, ◌∙◌, ℕ, ℤ, Bool, List, [], ◌∷◌, map, refl, sym, ap}
use Rattle.std.specs.List.{AllZip}
use Rattle.og_syntax.specs.declared.expressions.ExprTree.{ExprTree}
use Rattle.og_syntax.specs.declared.expressions.ExprTree.TheOpen.{ExprTree-F}
use Rattle.og_syntax.specs.declared.expressions.ExprTree.TheOpen as level
use Rattle.og_syntax.specs.declared.expressions.ExprTree.TheFolds.{fold-roll-ExprTree, map-ExprTree}
use Rattle.og_syntax.specs.declared.expressions.ExprTree.TheVariants as exprs
use Rattle.og_syntax.specs.declared.expressions.CompareOp.{CompareOp}
use Rattle.og_syntax.specs.declared.expressions.SumPart.{SumPart}
use Rattle.og_syntax.specs.declared.expressions.SumPart.TheVariants as sums
use Rattle.og_syntax.specs.declared.expressions.ProductPart.{ProductPart}
use Rattle.og_syntax.specs.declared.expressions.ProductPart.TheVariants as products
use Rattle.og_syntax.specs.declared.expressions.IfArm.{IfArm}
use Rattle.og_syntax.specs.declared.expressions.ResultTree.{ResultTree}
use Rattle.og_syntax.specs.declared.expressions.TableRow.{TableRow}
use Rattle.og_syntax.specs.Unplaced.{expr_unplaced, expr_step, result_unplaced, typed_unplaced, table_row_unplaced, value_unplaced}
use Rattle.og_reread.proofs.Sames.{SameExpr, SameResult, same_lists}

-- ---- parts

abbrev pub SameSum : SumPart ExprTree → SumPart ExprTree → Type 0
SameSum (sums.Plus a) (sums.Plus b) = SameExpr a b
SameSum (sums.Minus a) (sums.Minus b) = SameExpr a b
SameSum (sums.Plus a) (sums.Minus b) = ⊥
SameSum (sums.Minus a) (sums.Plus b) = ⊥

abbrev pub SameProduct : ProductPart ExprTree → ProductPart ExprTree → Type 0
SameProduct (products.Times a) (products.Times b) = SameExpr a b
SameProduct (products.Over n) (products.Over k) = k ≡ n
SameProduct (products.Times a) (products.Over k) = ⊥
SameProduct (products.Over n) (products.Times b) = ⊥

abbrev pub SameArm : IfArm ExprTree → IfArm ExprTree → Type 0
SameArm a b = SameExpr a.cond b.cond × SameExpr a.body b.body

-- a row of a table without its places
abbrev pub bare_row : TableRow ExprTree → TableRow ExprTree
bare_row row = record { at = 0; key = map value_unplaced row.key; body = expr_unplaced row.body }

abbrev pub SameTableRow : TableRow ExprTree → TableRow ExprTree → Type 0
SameTableRow a b = bare_row b ≡ bare_row a

-- one level of an expression, with its parts unplaced
abbrev over_parts : ExprTree-F ExprTree → ExprTree-F ExprTree
over_parts = map-ExprTree ExprTree ExprTree expr_unplaced

abbrev sums_of : ExprTree-F ExprTree → List (SumPart ExprTree)
sums_of (level.Sum at first rest) = rest
sums_of _ = []

abbrev products_of : ExprTree-F ExprTree → List (ProductPart ExprTree)
products_of (level.Product at first rest) = rest
products_of _ = []

abbrev arms_of : ExprTree-F ExprTree → List (IfArm ExprTree)
arms_of (level.If at arms otherwise) = arms
arms_of _ = []

abbrev keys_of : ExprTree-F ExprTree → List (ResultTree ExprTree)
keys_of (level.Table at keys rows) = keys
keys_of _ = []

abbrev rows_of : ExprTree-F ExprTree → List (TableRow ExprTree)
rows_of (level.Table at keys rows) = rows
rows_of _ = []

same_sums : (at at' : ℕ) (e f : ExprTree) (xs ys : List (SumPart ExprTree)) → AllZip SameSum xs ys
    → sums_of (over_parts (level.Sum at f ys)) ≡ sums_of (over_parts (level.Sum at' e xs))
same_sums at at' e f [] [] s = refl
same_sums at at' e f (sums.Plus a ∷ xs) (sums.Plus b ∷ ys) (one, more) = λ i. sums.Plus (one i) ∷ same_sums at at' e f xs ys more i
same_sums at at' e f (sums.Minus a ∷ xs) (sums.Minus b ∷ ys) (one, more) = λ i. sums.Minus (one i) ∷ same_sums at at' e f xs ys more i
same_sums at at' e f (sums.Plus a ∷ xs) (sums.Minus b ∷ ys) s = absurd s.0
same_sums at at' e f (sums.Minus a ∷ xs) (sums.Plus b ∷ ys) s = absurd s.0
same_sums at at' e f [] (y ∷ ys) s = absurd s
same_sums at at' e f (x ∷ xs) [] s = absurd s

same_products : (at at' : ℕ) (e f : ExprTree) (xs ys : List (ProductPart ExprTree)) → AllZip SameProduct xs ys
    → products_of (over_parts (level.Product at f ys)) ≡ products_of (over_parts (level.Product at' e xs))
same_products at at' e f [] [] s = refl
same_products at at' e f (products.Times a ∷ xs) (products.Times b ∷ ys) (one, more) = λ i. products.Times (one i) ∷ same_products at at' e f xs ys more i
same_products at at' e f (products.Over a ∷ xs) (products.Over b ∷ ys) (one, more) = λ i. products.Over (one i) ∷ same_products at at' e f xs ys more i
same_products at at' e f (products.Times a ∷ xs) (products.Over b ∷ ys) s = absurd s.0
same_products at at' e f (products.Over a ∷ xs) (products.Times b ∷ ys) s = absurd s.0
same_products at at' e f [] (y ∷ ys) s = absurd s
same_products at at' e f (x ∷ xs) [] s = absurd s

same_arms : (at at' : ℕ) (e f : ExprTree) (xs ys : List (IfArm ExprTree)) → AllZip SameArm xs ys
    → arms_of (over_parts (level.If at ys f)) ≡ arms_of (over_parts (level.If at' xs e))
same_arms at at' e f [] [] s = refl
same_arms at at' e f (x ∷ xs) (y ∷ ys) (one, more) =
    λ i. record { cond = one.0 i; body = one.1 i } ∷ same_arms at at' e f xs ys more i
same_arms at at' e f [] (y ∷ ys) s = absurd s
same_arms at at' e f (x ∷ xs) [] s = absurd s

keys_bare : (at : ℕ) (keys : List (ResultTree ExprTree)) (rows : List (TableRow ExprTree))
    → map typed_unplaced (keys_of (over_parts (level.Table at keys rows))) ≡ map result_unplaced keys
keys_bare at [] rows = refl
keys_bare at (key ∷ keys) rows = ap (λ l. result_unplaced key ∷ l) (keys_bare at keys rows)

rows_bare : (at : ℕ) (keys : List (ResultTree ExprTree)) (rows : List (TableRow ExprTree))
    → map table_row_unplaced (rows_of (over_parts (level.Table at keys rows))) ≡ map bare_row rows
rows_bare at keys [] = refl
rows_bare at keys (row ∷ rows) = ap (λ l. bare_row row ∷ l) (rows_bare at keys rows)

-- ---- forms, each without its places

pub same_number : (at at' : ℕ) (n : ℤ) → SameExpr (exprs.Number at n) (exprs.Number at' n)
same_number at at' n = bare at' ∙ sym (bare at)
  where
    bare : (p : ℕ) → expr_unplaced (exprs.Number p n) ≡ exprs.Number 0 n
    bare p = ap expr_unplaced (sym (exprs.rolls-Number p n)) ∙ fold-roll-ExprTree ExprTree expr_step (level.Number p n)

pub same_flag : (at at' : ℕ) (b : Bool) → SameExpr (exprs.Flag at b) (exprs.Flag at' b)
same_flag at at' b = bare at' ∙ sym (bare at)
  where
    bare : (p : ℕ) → expr_unplaced (exprs.Flag p b) ≡ exprs.Flag 0 b
    bare p = ap expr_unplaced (sym (exprs.rolls-Flag p b)) ∙ fold-roll-ExprTree ExprTree expr_step (level.Flag p b)

pub same_name : (at at' : ℕ) (name : List ℕ) → SameExpr (exprs.Name at name) (exprs.Name at' name)
same_name at at' name = bare at' ∙ sym (bare at)
  where
    bare : (p : ℕ) → expr_unplaced (exprs.Name p name) ≡ exprs.Name 0 name
    bare p = ap expr_unplaced (sym (exprs.rolls-Name p name)) ∙ fold-roll-ExprTree ExprTree expr_step (level.Name p name)

pub same_call : (at at' : ℕ) (name : List ℕ) (es fs : List ExprTree) → AllZip SameExpr es fs → SameExpr (exprs.Call at name es) (exprs.Call at' name fs)
same_call at at' name es fs s = bare at' fs ∙ ap (exprs.Call 0 name) (same_lists expr_unplaced es fs s) ∙ sym (bare at es)
  where
    bare : (p : ℕ) (xs : List ExprTree) → expr_unplaced (exprs.Call p name xs) ≡ exprs.Call 0 name (map expr_unplaced xs)
    bare p xs = ap expr_unplaced (sym (exprs.rolls-Call p name xs)) ∙ fold-roll-ExprTree ExprTree expr_step (level.Call p name xs)

pub same_or : (at at' : ℕ) (es fs : List ExprTree) → AllZip SameExpr es fs → SameExpr (exprs.Or at es) (exprs.Or at' fs)
same_or at at' es fs s = bare at' fs ∙ ap (exprs.Or 0) (same_lists expr_unplaced es fs s) ∙ sym (bare at es)
  where
    bare : (p : ℕ) (xs : List ExprTree) → expr_unplaced (exprs.Or p xs) ≡ exprs.Or 0 (map expr_unplaced xs)
    bare p xs = ap expr_unplaced (sym (exprs.rolls-Or p xs)) ∙ fold-roll-ExprTree ExprTree expr_step (level.Or p xs)

pub same_and : (at at' : ℕ) (es fs : List ExprTree) → AllZip SameExpr es fs → SameExpr (exprs.And at es) (exprs.And at' fs)
same_and at at' es fs s = bare at' fs ∙ ap (exprs.And 0) (same_lists expr_unplaced es fs s) ∙ sym (bare at es)
  where
    bare : (p : ℕ) (xs : List ExprTree) → expr_unplaced (exprs.And p xs) ≡ exprs.And 0 (map expr_unplaced xs)
    bare p xs = ap expr_unplaced (sym (exprs.rolls-And p xs)) ∙ fold-roll-ExprTree ExprTree expr_step (level.And p xs)

pub same_not : (at at' : ℕ) (e f : ExprTree) → SameExpr e f → SameExpr (exprs.Not at e) (exprs.Not at' f)
same_not at at' e f s = bare at' f ∙ ap (exprs.Not 0) s ∙ sym (bare at e)
  where
    bare : (p : ℕ) (x : ExprTree) → expr_unplaced (exprs.Not p x) ≡ exprs.Not 0 (expr_unplaced x)
    bare p x = ap expr_unplaced (sym (exprs.rolls-Not p x)) ∙ fold-roll-ExprTree ExprTree expr_step (level.Not p x)

pub same_compare : (at at' : ℕ) (op : CompareOp) (e f g h : ExprTree) → SameExpr e g → SameExpr f h → SameExpr (exprs.Compare at op e f) (exprs.Compare at' op g h)
same_compare at at' op e f g h s t = bare at' g h ∙ (λ i. exprs.Compare 0 op (s i) (t i)) ∙ sym (bare at e f)
  where
    bare : (p : ℕ) (x y : ExprTree) → expr_unplaced (exprs.Compare p op x y) ≡ exprs.Compare 0 op (expr_unplaced x) (expr_unplaced y)
    bare p x y = ap expr_unplaced (sym (exprs.rolls-Compare p op x y)) ∙ fold-roll-ExprTree ExprTree expr_step (level.Compare p op x y)

pub same_sum : (at at' : ℕ) (e f : ExprTree) (xs ys : List (SumPart ExprTree)) → SameExpr e f → AllZip SameSum xs ys → SameExpr (exprs.Sum at e xs) (exprs.Sum at' f ys)
same_sum at at' e f xs ys s t = bare at' f ys ∙ (λ i. exprs.Sum 0 (s i) (same_sums at' at e f xs ys t i)) ∙ sym (bare at e xs)
  where
    bare : (p : ℕ) (x : ExprTree) (zs : List (SumPart ExprTree)) → expr_unplaced (exprs.Sum p x zs) ≡ exprs.Sum 0 (expr_unplaced x) (sums_of (over_parts (level.Sum p x zs)))
    bare p x zs = ap expr_unplaced (sym (exprs.rolls-Sum p x zs)) ∙ fold-roll-ExprTree ExprTree expr_step (level.Sum p x zs)

pub same_product : (at at' : ℕ) (e f : ExprTree) (xs ys : List (ProductPart ExprTree)) → SameExpr e f → AllZip SameProduct xs ys → SameExpr (exprs.Product at e xs) (exprs.Product at' f ys)
same_product at at' e f xs ys s t = bare at' f ys ∙ (λ i. exprs.Product 0 (s i) (same_products at' at e f xs ys t i)) ∙ sym (bare at e xs)
  where
    bare : (p : ℕ) (x : ExprTree) (zs : List (ProductPart ExprTree)) → expr_unplaced (exprs.Product p x zs) ≡ exprs.Product 0 (expr_unplaced x) (products_of (over_parts (level.Product p x zs)))
    bare p x zs = ap expr_unplaced (sym (exprs.rolls-Product p x zs)) ∙ fold-roll-ExprTree ExprTree expr_step (level.Product p x zs)

pub same_neg : (at at' : ℕ) (e f : ExprTree) → SameExpr e f → SameExpr (exprs.Neg at e) (exprs.Neg at' f)
same_neg at at' e f s = bare at' f ∙ ap (exprs.Neg 0) s ∙ sym (bare at e)
  where
    bare : (p : ℕ) (x : ExprTree) → expr_unplaced (exprs.Neg p x) ≡ exprs.Neg 0 (expr_unplaced x)
    bare p x = ap expr_unplaced (sym (exprs.rolls-Neg p x)) ∙ fold-roll-ExprTree ExprTree expr_step (level.Neg p x)

pub bare_field : (p : ℕ) (x : ExprTree) (path : List ℕ) → expr_unplaced (exprs.Field p x path) ≡ exprs.Field 0 (expr_unplaced x) path
bare_field p x path = ap expr_unplaced (sym (exprs.rolls-Field p x path)) ∙ fold-roll-ExprTree ExprTree expr_step (level.Field p x path)

pub same_tuple : (at at' : ℕ) (es fs : List ExprTree) → AllZip SameExpr es fs → SameExpr (exprs.Tuple at es) (exprs.Tuple at' fs)
same_tuple at at' es fs s = bare at' fs ∙ ap (exprs.Tuple 0) (same_lists expr_unplaced es fs s) ∙ sym (bare at es)
  where
    bare : (p : ℕ) (xs : List ExprTree) → expr_unplaced (exprs.Tuple p xs) ≡ exprs.Tuple 0 (map expr_unplaced xs)
    bare p xs = ap expr_unplaced (sym (exprs.rolls-Tuple p xs)) ∙ fold-roll-ExprTree ExprTree expr_step (level.Tuple p xs)

pub same_if : (at at' : ℕ) (xs ys : List (IfArm ExprTree)) (e f : ExprTree) → AllZip SameArm xs ys → SameExpr e f → SameExpr (exprs.If at xs e) (exprs.If at' ys f)
same_if at at' xs ys e f s t = bare at' ys f ∙ (λ i. exprs.If 0 (same_arms at' at e f xs ys s i) (t i)) ∙ sym (bare at xs e)
  where
    bare : (p : ℕ) (zs : List (IfArm ExprTree)) (x : ExprTree) → expr_unplaced (exprs.If p zs x) ≡ exprs.If 0 (arms_of (over_parts (level.If p zs x))) (expr_unplaced x)
    bare p zs x = ap expr_unplaced (sym (exprs.rolls-If p zs x)) ∙ fold-roll-ExprTree ExprTree expr_step (level.If p zs x)

pub same_table : (at at' : ℕ) (ks ls : List (ResultTree ExprTree)) (xs ys : List (TableRow ExprTree)) → AllZip SameResult ks ls → AllZip SameTableRow xs ys
    → SameExpr (exprs.Table at ks xs) (exprs.Table at' ls ys)
same_table at at' ks ls xs ys s t =
    bare at' ls ys ∙ (λ i. exprs.Table 0 (same_lists result_unplaced ks ls s i) (same_lists bare_row xs ys t i)) ∙ sym (bare at ks xs)
  where
    bare : (p : ℕ) (keys : List (ResultTree ExprTree)) (rows : List (TableRow ExprTree))
        → expr_unplaced (exprs.Table p keys rows) ≡ exprs.Table 0 (map result_unplaced keys) (map bare_row rows)
    bare p keys rows =
        ap expr_unplaced (sym (exprs.rolls-Table p keys rows)) ∙ fold-roll-ExprTree ExprTree expr_step (level.Table p keys rows)
        ∙ (λ i. exprs.Table 0 (keys_bare p keys rows i) (rows_bare p keys rows i))

pub same_ratio : (at at' : ℕ) (a b c x y z : ExprTree) → SameExpr a x → SameExpr b y → SameExpr c z → SameExpr (exprs.Ratio at a b c) (exprs.Ratio at' x y z)
same_ratio at at' a b c x y z s t u = bare at' x y z ∙ (λ i. exprs.Ratio 0 (s i) (t i) (u i)) ∙ sym (bare at a b c)
  where
    bare : (p : ℕ) (e f g : ExprTree) → expr_unplaced (exprs.Ratio p e f g) ≡ exprs.Ratio 0 (expr_unplaced e) (expr_unplaced f) (expr_unplaced g)
    bare p e f g = ap expr_unplaced (sym (exprs.rolls-Ratio p e f g)) ∙ fold-roll-ExprTree ExprTree expr_step (level.Ratio p e f g)

pub same_min : (at at' : ℕ) (a b x y : ExprTree) → SameExpr a x → SameExpr b y → SameExpr (exprs.Min at a b) (exprs.Min at' x y)
same_min at at' a b x y s t = bare at' x y ∙ (λ i. exprs.Min 0 (s i) (t i)) ∙ sym (bare at a b)
  where
    bare : (p : ℕ) (e f : ExprTree) → expr_unplaced (exprs.Min p e f) ≡ exprs.Min 0 (expr_unplaced e) (expr_unplaced f)
    bare p e f = ap expr_unplaced (sym (exprs.rolls-Min p e f)) ∙ fold-roll-ExprTree ExprTree expr_step (level.Min p e f)

pub same_max : (at at' : ℕ) (a b x y : ExprTree) → SameExpr a x → SameExpr b y → SameExpr (exprs.Max at a b) (exprs.Max at' x y)
same_max at at' a b x y s t = bare at' x y ∙ (λ i. exprs.Max 0 (s i) (t i)) ∙ sym (bare at a b)
  where
    bare : (p : ℕ) (e f : ExprTree) → expr_unplaced (exprs.Max p e f) ≡ exprs.Max 0 (expr_unplaced e) (expr_unplaced f)
    bare p e f = ap expr_unplaced (sym (exprs.rolls-Max p e f)) ∙ fold-roll-ExprTree ExprTree expr_step (level.Max p e f)

pub same_clamp : (at at' l l' : ℕ) (lo hi : ℤ) (e f : ExprTree) → SameExpr e f → SameExpr (exprs.Clamp at l lo hi e) (exprs.Clamp at' l' lo hi f)
same_clamp at at' l l' lo hi e f s = bare at' l' f ∙ ap (exprs.Clamp 0 0 lo hi) s ∙ sym (bare at l e)
  where
    bare : (p q : ℕ) (x : ExprTree) → expr_unplaced (exprs.Clamp p q lo hi x) ≡ exprs.Clamp 0 0 lo hi (expr_unplaced x)
    bare p q x = ap expr_unplaced (sym (exprs.rolls-Clamp p q lo hi x)) ∙ fold-roll-ExprTree ExprTree expr_step (level.Clamp p q lo hi x)
