-- Expressions of each form, written at their own level.
use Rattle.std.proofs.Common.{◌≡◌, ◌∙◌, ◌⊎◌, ℕ, suc, ◌+◌, length, ◌^◌, ◌<◌, ℤ, pos, negsuc, List, [], ◌∷◌, ◌++◌, cond, Option, None, Some, inl, inr, refl, sym, ap, subst, arith, append_assoc, le-ltb}
use Rattle.std.proofs.Common.{map as each, ◌≤◌}
use Rattle.std.specs.Prelude.{flat_map, unsigned_abs}
use Rattle.std.specs.List.{AllByRecursion, AllZip}
use Rattle.std.proofs.lemmas.Int.{ints}
use Rattle.og_lex.specs.declared.token.Mark.TheVariants as marks
use Rattle.og_lex.specs.declared.token.Word.TheVariants as words
use Rattle.og_grammar.specs.declared.terminal.Terminal.{Terminal}
use Rattle.og_grammar.specs.declared.terminal.Terminal.TheVariants as terminals
use Rattle.og_grammar.specs.Reading.{any}
use Rattle.og_grammar.specs.Rule.{Rule, seq, alt, star, map, give, at, EachInTurn}
use Rattle.og_grammar.specs.Combinators as rules
use Rattle.og_grammar.specs.Levels.{meaning}
use Rattle.og_grammar.specs.Rule.{spells}
use Rattle.og_grammar.specs.Lexeme.{Lexeme}
use Rattle.og_syntax.specs.declared.expressions.ExprTree.{ExprTree}
use Rattle.og_syntax.specs.declared.expressions.ExprTree.TheVariants as exprs
use Rattle.og_syntax.specs.declared.expressions.SumPart.{SumPart}
use Rattle.og_syntax.specs.declared.expressions.ProductPart.{ProductPart}
use Rattle.og_syntax.specs.declared.expressions.CompareOp.{CompareOp}
use Rattle.og_syntax.specs.Places.{expr_place}
use Rattle.og_syntax.specs.Unplaced.{expr_unplaced}
use Rattle.og_language.specs.Symbols.{symbols, expression}
use Rattle.og_language.specs.Language.{language}
use Rattle.og_language.specs.Trees.{one_or, grouped, negative, negated, sum_of, product_of, compare_of, field_of}
use Rattle.og_language.specs.Grammar as g
use Rattle.og_canonical.specs.Tokens as c
use Rattle.og_canonical.specs.Expressions.{Shown, at_least, shown, expr_text, exprs_text, path_text, sum_part, product_part, op_mark}
use Rattle.og_canonical.proofs.ExprForms as forms
use Rattle.og_lex.specs.Written.{IsWritten, text_of}
use Rattle.og_reread.proofs.Rows.{lexemes, join_all, text_of-append, lexemes-append}
use Rattle.og_reread.proofs.Again.{Writes, WritesEach, w_text, w_seq, w_map, w_left, w_right, w_at, w_hole, w_star}
use Rattle.og_reread.proofs.Tokens.{Equal, w_mark, w_word, w_number}
use Rattle.og_reread.proofs.Lists.{w_before, w_separated}
use Rattle.og_reread.proofs.Sames.{SameExpr}
use Rattle.og_reread.proofs.ExprForms.{SameSum, SameProduct, same_number, same_or, same_and, same_not, same_compare, same_sum, same_product, same_neg, same_tuple}
use Rattle.og_reread.proofs.ExprLevels.{rule_at, Whole, whole, writes_at, w_primary, w_form, w_group_form}
use Rattle.og_reread.proofs.ExprFields.{same_field_of, shown_components, field_of-more}

-- where any expression may stand
pub w_expr : (e : ExprTree) → Whole e → Writes g.expr (expr_text e) (SameExpr e)
w_expr e w = w_hole expression (expr_text e) (SameExpr e) (writes_at 1 (omega arith) e w)

-- ---- what no operation is the outermost of

-- It has the highest level, and the rule spells its text again.
abbrev pub Tight : Rule symbols ExprTree → ExprTree → Type 0
Tight rule e = ((shown e).level ≡ 8) × Writes rule (shown e).text (SameExpr e)

pub tight : (rule : Rule symbols ExprTree) (e : ExprTree) (text : List ℕ) → shown e ≡ record { level = 8; text = text }
    → Writes rule text (SameExpr e) → Tight rule e
tight rule e text is w = (ap (λ (s : Shown). s.level) is, subst (λ (s : Shown). Writes rule s.text (SameExpr e)) (sym is) w)

pub tight_whole : (e : ExprTree) → Tight g.primary e → Whole e
tight_whole e t =
    whole e 8 (shown e).text (λ i. record { level = t.0 i; text = (shown e).text }) (w_primary (shown e).text (SameExpr e) t.1)

pub tight_form : (e : ExprTree) → Tight g.form e → Whole e
tight_form e t = tight_whole e (t.0, w_form (shown e).text (SameExpr e) t.1)

-- ---- lists of expressions, with something between each two

-- the texts at a level, each written
pub each_at : (n : ℕ) → n ≤ 8 → (es : List ExprTree) → AllByRecursion Whole es
    → WritesEach (rule_at n) (λ e. at_least n (shown e)) SameExpr es
each_at n le [] all = tt
each_at n le (e ∷ es) (w, all) = (writes_at n le e w, each_at n le es all)

joined_texts : (between : List ℕ) (t : ExprTree → List ℕ) (es : List ExprTree)
    → flat_map (λ e. between ++ t e) es ≡ flat_map (λ l. between ++ l) (each t es)
joined_texts between t [] = refl
joined_texts between t (e ∷ es) = ap (λ l. (between ++ t e) ++ l) (joined_texts between t es)

pub w_joined : (k : Terminal) (between : List ℕ) → Writes (rules.place_of k) between (λ _. Unit {0}) → (f : Rule symbols ExprTree) (t : ExprTree → List ℕ)
    → (e : ExprTree) (es : List ExprTree) → WritesEach f t SameExpr (e ∷ es)
    → Writes (rules.separated k f) (c.joined between (each t (e ∷ es))) (AllZip SameExpr (e ∷ es))
w_joined k between sep f t e es ws =
    w_text (rules.separated k f) (t e ++ flat_map (λ x. between ++ t x) es) (c.joined between (each t (e ∷ es))) (AllZip SameExpr (e ∷ es))
    (ap (λ l. t e ++ l) (joined_texts between t es)) (w_separated k between sep f t SameExpr e es ws)

-- what is made of several expressions, of those that are the same
same_or_of : (here : ℕ) (e f : ExprTree) (es : List ExprTree) (xs : List ExprTree) → AllZip SameExpr (e ∷ f ∷ es) xs
    → SameExpr (exprs.Or here (e ∷ f ∷ es)) (one_or exprs.Or xs)
same_or_of here e f es [] s = absurd s
same_or_of here e f es (x ∷ []) s = absurd s.1
same_or_of here e f es (x ∷ y ∷ xs) s = same_or here (expr_place x) (e ∷ f ∷ es) (x ∷ y ∷ xs) s

same_and_of : (here : ℕ) (e f : ExprTree) (es : List ExprTree) (xs : List ExprTree) → AllZip SameExpr (e ∷ f ∷ es) xs
    → SameExpr (exprs.And here (e ∷ f ∷ es)) (one_or exprs.And xs)
same_and_of here e f es [] s = absurd s
same_and_of here e f es (x ∷ []) s = absurd s.1
same_and_of here e f es (x ∷ y ∷ xs) s = same_and here (expr_place x) (e ∷ f ∷ es) (x ∷ y ∷ xs) s

same_group_of : (here place : ℕ) (e f : ExprTree) (es : List ExprTree) (xs : List ExprTree) → AllZip SameExpr (e ∷ f ∷ es) xs
    → SameExpr (exprs.Tuple here (e ∷ f ∷ es)) (grouped place xs)
same_group_of here place e f es [] s = absurd s
same_group_of here place e f es (x ∷ []) s = absurd s.1
same_group_of here place e f es (x ∷ y ∷ xs) s = same_tuple here place (e ∷ f ∷ es) (x ∷ y ∷ xs) s

pub whole_or : (here : ℕ) (e f : ExprTree) (es : List ExprTree) → AllByRecursion Whole (e ∷ f ∷ es) → Whole (exprs.Or here (e ∷ f ∷ es))
unfolding g.expression_rule g.conjunctions
whole_or here e f es all =
    whole (exprs.Or here (e ∷ f ∷ es)) 1 (c.joined (c.word words.Or) (each (λ x. at_least 2 (shown x)) (e ∷ f ∷ es))) (forms.shown_or here (e ∷ f ∷ es))
    (w_map (one_or exprs.Or) (rules.separated (terminals.Word words.Or) g.conjunction)
    (c.joined (c.word words.Or) (each (λ x. at_least 2 (shown x)) (e ∷ f ∷ es))) (AllZip SameExpr (e ∷ f ∷ es)) (SameExpr (exprs.Or here (e ∷ f ∷ es)))
    (same_or_of here e f es)
    (w_joined (terminals.Word words.Or) (c.word words.Or) (w_word words.Or) g.conjunction (λ x. at_least 2 (shown x)) e (f ∷ es)
    (each_at 2 (omega arith) (e ∷ f ∷ es) all)))

pub whole_and : (here : ℕ) (e f : ExprTree) (es : List ExprTree) → AllByRecursion Whole (e ∷ f ∷ es) → Whole (exprs.And here (e ∷ f ∷ es))
unfolding g.conjunction g.inversions
whole_and here e f es all =
    whole (exprs.And here (e ∷ f ∷ es)) 2 (c.joined (c.word words.And) (each (λ x. at_least 3 (shown x)) (e ∷ f ∷ es))) (forms.shown_and here (e ∷ f ∷ es))
    (w_map (one_or exprs.And) (rules.separated (terminals.Word words.And) g.inversion)
    (c.joined (c.word words.And) (each (λ x. at_least 3 (shown x)) (e ∷ f ∷ es))) (AllZip SameExpr (e ∷ f ∷ es)) (SameExpr (exprs.And here (e ∷ f ∷ es)))
    (same_and_of here e f es)
    (w_joined (terminals.Word words.And) (c.word words.And) (w_word words.And) g.inversion (λ x. at_least 3 (shown x)) e (f ∷ es)
    (each_at 3 (omega arith) (e ∷ f ∷ es) all)))

-- expressions at any level, each written
pub each_expr : (es : List ExprTree) → AllByRecursion Whole es → WritesEach g.expr expr_text SameExpr es
each_expr [] all = tt
each_expr (e ∷ es) (w, all) = (w_expr e w, each_expr es all)

pub whole_tuple : (here : ℕ) (e f : ExprTree) (es : List ExprTree) → AllByRecursion Whole (e ∷ f ∷ es) → Whole (exprs.Tuple here (e ∷ f ∷ es))
unfolding g.group g.some_exprs
whole_tuple here e f es all =
    let text : List ℕ = exprs_text (e ∷ f ∷ es) in
    let Is : List ExprTree → Type 0 = AllZip SameExpr (e ∷ f ∷ es) in
    tight_form (exprs.Tuple here (e ∷ f ∷ es))
    (tight g.form (exprs.Tuple here (e ∷ f ∷ es)) (c.in_parens text) (forms.shown_tuple here (e ∷ f ∷ es))
    (w_group_form (c.in_parens text) (SameExpr (exprs.Tuple here (e ∷ f ∷ es)))
    (w_map (λ v. grouped v.0 v.1) (seq (rules.mark marks.LeftParen) (rules.before (rules.commas g.expr) (rules.mark marks.RightParen))) (c.in_parens text)
    (λ v. Unit {0} × Is v.1) (SameExpr (exprs.Tuple here (e ∷ f ∷ es))) (λ v is. same_group_of here v.0 e f es v.1 is.1)
    (w_text (seq (rules.mark marks.LeftParen) (rules.before (rules.commas g.expr) (rules.mark marks.RightParen)))
    (c.mark marks.LeftParen ++ (text ++ c.mark marks.RightParen)) (c.in_parens text) (λ v. Unit {0} × Is v.1)
    (sym (append_assoc (c.mark marks.LeftParen) text (c.mark marks.RightParen)))
    (w_seq (rules.mark marks.LeftParen) (rules.before (rules.commas g.expr) (rules.mark marks.RightParen)) (c.mark marks.LeftParen) (text ++ c.mark marks.RightParen)
    (λ _. Unit {0}) Is (w_mark marks.LeftParen)
    (w_before (rules.commas g.expr) (rules.mark marks.RightParen) text (c.mark marks.RightParen) Is (λ _. Unit {0})
    (w_joined (terminals.Mark marks.Comma) (c.mark marks.Comma) (w_mark marks.Comma) g.expr expr_text e (f ∷ es) (each_expr (e ∷ f ∷ es) all))
    (w_mark marks.RightParen)))))))

-- ---- operations

pub whole_not : (here : ℕ) (e : ExprTree) → Whole e → Whole (exprs.Not here e)
unfolding g.inversion
whole_not here e w =
    whole (exprs.Not here e) 3 (c.word words.Not ++ at_least 4 (shown e)) (forms.shown_not here e)
    (w_left (map (λ v. exprs.Not v.0 v.1) (seq (rules.word words.Not) g.comparison)) g.comparison (c.word words.Not ++ at_least 4 (shown e)) (SameExpr (exprs.Not here e))
    (w_map (λ v. exprs.Not v.0 v.1) (seq (rules.word words.Not) g.comparison) (c.word words.Not ++ at_least 4 (shown e)) (λ v. Unit {0} × SameExpr e v.1)
    (SameExpr (exprs.Not here e)) (λ v is. same_not here v.0 e v.1 is.1)
    (w_seq (rules.word words.Not) g.comparison (c.word words.Not) (at_least 4 (shown e)) (λ _. Unit {0}) (SameExpr e) (w_word words.Not) (writes_at 4 (omega arith) e w))))

pub whole_compare : (here : ℕ) (op : CompareOp) (e f : ExprTree) → Writes g.comparison_mark (c.mark (op_mark op)) (Equal op) → Whole e → Whole f
    → Whole (exprs.Compare here op e f)
unfolding g.comparison g.compared
whole_compare here op e f sign v w =
    let text : List ℕ = at_least 5 (shown e) ++ (c.mark (op_mark op) ++ at_least 5 (shown f)) in
    let Is : Option (CompareOp × ExprTree) → Type 0 = λ o. (x : CompareOp × ExprTree) × (o ≡ Some x) × (x.0 ≡ op) × SameExpr f x.1 in
    whole (exprs.Compare here op e f) 4 text
    (forms.shown_compare here op e f ∙ ap (λ l. record { level = 4; text = l }) (append_assoc (at_least 5 (shown e)) (c.mark (op_mark op)) (at_least 5 (shown f))))
    (w_map (λ x. compare_of x.0 x.1) (seq g.sum (rules.opt (seq g.comparison_mark g.sum))) text (λ x. SameExpr e x.0 × Is x.1) (SameExpr (exprs.Compare here op e f))
    (λ x is. subst (λ o. SameExpr (exprs.Compare here op e f) (compare_of x.0 o)) (sym is.1.1)
    (subst (λ p. SameExpr (exprs.Compare here op e f) (exprs.Compare (expr_place x.0) p x.0 is.1.0.1)) (sym is.1.2)
    (same_compare here (expr_place x.0) op e f x.0 is.1.0.1 is.0 is.1.3)))
    (w_seq g.sum (rules.opt (seq g.comparison_mark g.sum)) (at_least 5 (shown e)) (c.mark (op_mark op) ++ at_least 5 (shown f)) (SameExpr e) Is
    (writes_at 5 (omega arith) e v)
    (w_left (map Some (seq g.comparison_mark g.sum)) (give None) (c.mark (op_mark op) ++ at_least 5 (shown f)) Is
    (w_map Some (seq g.comparison_mark g.sum) (c.mark (op_mark op) ++ at_least 5 (shown f)) (λ x. (x.0 ≡ op) × SameExpr f x.1) Is (λ x is. (x, refl, is.0, is.1))
    (w_seq g.comparison_mark g.sum (c.mark (op_mark op)) (at_least 5 (shown f)) (Equal op) (SameExpr f) sign (writes_at 5 (omega arith) f w))))))

-- the parts of a sum or a product, each written
abbrev pub SumWritten : SumPart ExprTree → Type 0
SumWritten part = Writes g.sum_part (sum_part (λ e. at_least 6 (shown e)) part) (SameSum part)

abbrev pub ProductWritten : ProductPart ExprTree → Type 0
ProductWritten part = Writes g.product_part (product_part (λ e. at_least 7 (shown e)) part) (SameProduct part)

each_sum : (ps : List (SumPart ExprTree)) → AllByRecursion SumWritten ps → WritesEach g.sum_part (sum_part (λ e. at_least 6 (shown e))) SameSum ps
each_sum [] all = tt
each_sum (p ∷ ps) (w, all) = (w, each_sum ps all)

each_product : (ps : List (ProductPart ExprTree)) → AllByRecursion ProductWritten ps → WritesEach g.product_part (product_part (λ e. at_least 7 (shown e))) SameProduct ps
each_product [] all = tt
each_product (p ∷ ps) (w, all) = (w, each_product ps all)

same_sum_of : (here : ℕ) (e x : ExprTree) (p : SumPart ExprTree) (ps qs : List (SumPart ExprTree)) → SameExpr e x → AllZip SameSum (p ∷ ps) qs
    → SameExpr (exprs.Sum here e (p ∷ ps)) (sum_of x qs)
same_sum_of here e x p ps [] s t = absurd t
same_sum_of here e x p ps (q ∷ qs) s t = same_sum here (expr_place x) e x (p ∷ ps) (q ∷ qs) s t

same_product_of : (here : ℕ) (e x : ExprTree) (p : ProductPart ExprTree) (ps qs : List (ProductPart ExprTree)) → SameExpr e x → AllZip SameProduct (p ∷ ps) qs
    → SameExpr (exprs.Product here e (p ∷ ps)) (product_of x qs)
same_product_of here e x p ps [] s t = absurd t
same_product_of here e x p ps (q ∷ qs) s t = same_product here (expr_place x) e x (p ∷ ps) (q ∷ qs) s t

pub whole_sum : (here : ℕ) (e : ExprTree) (p : SumPart ExprTree) (ps : List (SumPart ExprTree)) → Whole e → AllByRecursion SumWritten (p ∷ ps)
    → Whole (exprs.Sum here e (p ∷ ps))
unfolding g.sum g.sum_parts
whole_sum here e p ps w all =
    let more : List ℕ = flat_map (sum_part (λ x. at_least 6 (shown x))) (p ∷ ps) in
    whole (exprs.Sum here e (p ∷ ps)) 5 (at_least 6 (shown e) ++ more) (forms.shown_sum here e (p ∷ ps))
    (w_map (λ v. sum_of v.0 v.1) (seq g.product (star g.sum_part)) (at_least 6 (shown e) ++ more) (λ v. SameExpr e v.0 × AllZip SameSum (p ∷ ps) v.1)
    (SameExpr (exprs.Sum here e (p ∷ ps))) (λ v is. same_sum_of here e v.0 p ps v.1 is.0 is.1)
    (w_seq g.product (star g.sum_part) (at_least 6 (shown e)) more (SameExpr e) (AllZip SameSum (p ∷ ps)) (writes_at 6 (omega arith) e w)
    (w_star g.sum_part (sum_part (λ x. at_least 6 (shown x))) SameSum (p ∷ ps) (each_sum (p ∷ ps) all))))

pub whole_product : (here : ℕ) (e : ExprTree) (p : ProductPart ExprTree) (ps : List (ProductPart ExprTree)) → Whole e → AllByRecursion ProductWritten (p ∷ ps)
    → Whole (exprs.Product here e (p ∷ ps))
unfolding g.product g.product_parts
whole_product here e p ps w all =
    let more : List ℕ = flat_map (product_part (λ x. at_least 7 (shown x))) (p ∷ ps) in
    whole (exprs.Product here e (p ∷ ps)) 6 (at_least 7 (shown e) ++ more) (forms.shown_product here e (p ∷ ps))
    (w_map (λ v. product_of v.0 v.1) (seq g.unary (star g.product_part)) (at_least 7 (shown e) ++ more) (λ v. SameExpr e v.0 × AllZip SameProduct (p ∷ ps) v.1)
    (SameExpr (exprs.Product here e (p ∷ ps))) (λ v is. same_product_of here e v.0 p ps v.1 is.0 is.1)
    (w_seq g.unary (star g.product_part) (at_least 7 (shown e)) more (SameExpr e) (AllZip SameProduct (p ∷ ps)) (writes_at 7 (omega arith) e w)
    (w_star g.product_part (product_part (λ x. at_least 7 (shown x))) SameProduct (p ∷ ps) (each_product (p ∷ ps) all))))

-- ---- numbers, minus and components

whole_size : (n : ℕ) → c.whole (pos n) ≡ c.number n
unfolding c.whole
whole_size n = ap (λ b. cond b (c.mark marks.Minus ++ c.number n) (c.number n)) (le-ltb n 0 (omega arith))

negative_is : (n : ℕ) → negative (suc n) ≡ negsuc n
negative_is n = omega (arith, ints)

abbrev plain_number : Rule symbols ExprTree
plain_number = map (λ v. exprs.Number v.0 (pos v.1)) (at rules.number)

abbrev behind_minus : Rule symbols (ℕ ⊎ ExprTree)
behind_minus = alt (map inl rules.number) (map inr g.field)

w_literal : (place : ℕ) (z : ℤ) → unsigned_abs z < 2 ^ 63 → Writes g.unary (c.whole z) (SameExpr (exprs.Number place z))
unfolding g.unary g.negation c.whole
w_literal place (pos n) small =
    w_right g.negation (alt plain_number g.field) (c.whole (pos n)) (SameExpr (exprs.Number place (pos n)))
    (w_left plain_number g.field (c.whole (pos n)) (SameExpr (exprs.Number place (pos n)))
    (w_map (λ v. exprs.Number v.0 (pos v.1)) (at rules.number) (c.whole (pos n)) (λ v. v.1 ≡ n) (SameExpr (exprs.Number place (pos n)))
    (λ v is. subst (λ k. SameExpr (exprs.Number place (pos n)) (exprs.Number v.0 (pos k))) (sym is) (same_number place v.0 (pos n)))
    (w_text (at rules.number) (c.number n) (c.whole (pos n)) (λ v. v.1 ≡ n) (sym (whole_size n))
    (w_at rules.number (c.number n) (Equal n) (w_number n small any (λ u e. refl))))))
w_literal place (negsuc n) small =
    w_left g.negation (alt plain_number g.field) (c.whole (negsuc n)) (SameExpr (exprs.Number place (negsuc n)))
    (w_map (λ v. negated v.0 v.1) (seq (rules.mark marks.Minus) behind_minus) (c.whole (negsuc n)) (λ v. Unit {0} × (v.1 ≡ inl (suc n)))
    (SameExpr (exprs.Number place (negsuc n)))
    (λ v is. subst (λ o. SameExpr (exprs.Number place (negsuc n)) (negated v.0 o)) (sym is.1)
    (subst (λ z. SameExpr (exprs.Number place (negsuc n)) (exprs.Number v.0 z)) (sym (negative_is n)) (same_number place v.0 (negsuc n))))
    (w_seq (rules.mark marks.Minus) behind_minus (c.mark marks.Minus) (c.number (suc n)) (λ _. Unit {0}) (λ o. o ≡ inl (suc n)) (w_mark marks.Minus)
    (w_left (map inl rules.number) (map inr g.field) (c.number (suc n)) (λ o. o ≡ inl (suc n))
    (w_map inl rules.number (c.number (suc n)) (Equal (suc n)) (λ o. o ≡ inl (suc n)) (λ k is. ap inl is) (w_number (suc n) small any (λ u e. refl))))))

pub whole_number : (place : ℕ) (z : ℤ) → unsigned_abs z < 2 ^ 63 → Whole (exprs.Number place z)
whole_number place z small = whole (exprs.Number place z) 7 (c.whole z) (forms.shown_number place z) (w_literal place z small)

pub whole_neg : (place : ℕ) (e : ExprTree) → Whole e → Whole (exprs.Neg place e)
unfolding g.unary g.negation
whole_neg place e w =
    let text : List ℕ = c.mark marks.Minus ++ at_least 8 (shown e) in
    let Is : ℕ ⊎ ExprTree → Type 0 = λ o. (x : ExprTree) × (o ≡ inr x) × SameExpr e x in
    whole (exprs.Neg place e) 7 text (forms.shown_neg place e)
    (w_left g.negation (alt plain_number g.field) text (SameExpr (exprs.Neg place e))
    (w_map (λ v. negated v.0 v.1) (seq (rules.mark marks.Minus) behind_minus) text (λ v. Unit {0} × Is v.1) (SameExpr (exprs.Neg place e))
    (λ v is. subst (λ o. SameExpr (exprs.Neg place e) (negated v.0 o)) (sym is.1.1) (same_neg place v.0 e is.1.0 is.1.2))
    (w_seq (rules.mark marks.Minus) behind_minus (c.mark marks.Minus) (at_least 8 (shown e)) (λ _. Unit {0}) Is (w_mark marks.Minus)
    (w_right (map inl rules.number) (map inr g.field) (at_least 8 (shown e)) Is
    (w_map inr g.field (at_least 8 (shown e)) (SameExpr e) Is (λ x is. (x, refl, is)) (writes_at 8 (omega arith) e w))))))

more_in_turn : {A : Type 0} (f : List Lexeme → A → Type 0) (us vs : List A) (xs ys : List Lexeme) → EachInTurn f xs us → EachInTurn f ys vs
    → EachInTurn f (xs ++ ys) (us ++ vs)
more_in_turn f [] vs xs ys none more = subst (λ l. EachInTurn f (l ++ ys) vs) (sym none) more
more_in_turn f (u ∷ us) vs xs ys (ps, qs, cut, one, rest) more =
    (ps, qs ++ ys, ap (λ l. l ++ ys) cut ∙ append_assoc ps qs ys, one, more_in_turn f us vs qs ys rest more)

-- components that follow some
w_more : (p : ExprTree) (ks : List ℕ) (t : List ℕ) → Writes g.field t (SameExpr p) → Writes g.path (path_text ks) (Equal ks)
    → Writes g.field (t ++ path_text ks) (SameExpr (field_of p ks))
unfolding g.field g.path
w_more p ks t w v = record {
  row = w.row ++ v.row;
  good = join_all IsWritten w.row v.row w.good v.good;
  is_text = (λ i. w.is_text i ++ v.is_text i) ∙ sym (text_of-append w.row v.row);
  spelled = λ place. joined place (w.spelled place) (v.spelled (place + length (text_of w.row)));
}
  where
    joined : (place : ℕ) → (a : ExprTree) × spells (meaning language) g.field (lexemes place w.row) a × SameExpr p a
        → (us : List ℕ) × spells (meaning language) g.path (lexemes (place + length (text_of w.row)) v.row) us × (us ≡ ks)
        → (b : ExprTree) × spells (meaning language) g.field (lexemes place (w.row ++ v.row)) b × SameExpr (field_of p ks) b
    joined place (a, ((q, js), (xs, ys, cut, one, some), made), same) (us, more, is) =
        let rest = lexemes (place + length (text_of w.row)) v.row in (
          field_of q (js ++ us),
          (
            (q, js ++ us),
            (
              xs,
              ys ++ rest,
              lexemes-append place w.row v.row ∙ ap (λ l. l ++ rest) cut ∙ append_assoc xs ys rest,
              one,
              more_in_turn (spells (meaning language) g.component) js us ys rest some more,
            ),
            refl,
          ),
          ap expr_unplaced (field_of-more q js us ∙ (λ i. field_of (sym made i) (is i))) ∙ same_field_of p a ks same,
        )

pub whole_components : (p : ExprTree) (k : ℕ) (ks : List ℕ) → Whole p → Writes g.path (path_text (k ∷ ks)) (Equal (k ∷ ks)) → Whole (field_of p (k ∷ ks))
whole_components p k ks w v =
    whole (field_of p (k ∷ ks)) 8 (at_least 8 (shown p) ++ path_text (k ∷ ks)) (shown_components p k ks)
    (w_more p (k ∷ ks) (at_least 8 (shown p)) (writes_at 8 (omega arith) p w) v)
