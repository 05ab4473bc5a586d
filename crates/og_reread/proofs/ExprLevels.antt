-- An expression that is written at its own level is written wherever the grammar asks for some level.
use Rattle.std.proofs.Common.{◌≡◌, ◌∙◌, ℕ, zero, suc, ◌+◌, ◌-◌, ◌≤◌, Bool, true, false, cond, List, [], ◌∷◌, ◌++◌, None, Some, inl, inr, refl, sym, ap, subst, arith, append_assoc}
use Rattle.std.specs.Prelude.{nat_lt}
use Rattle.std.proofs.lemmas.List.{append-nil}
use Rattle.std.proofs.lemmas.Bool.{cases_lt, lt-ltb}
use Rattle.og_lex.specs.declared.token.Mark.TheVariants as marks
use Rattle.og_lex.specs.declared.token.Word.TheVariants as words
use Rattle.og_grammar.specs.declared.terminal.Terminal.TheVariants as terminals
use Rattle.og_grammar.specs.Rule.{Rule, seq, alt, star, map, give, at}
use Rattle.og_grammar.specs.Combinators as rules
use Rattle.og_syntax.specs.declared.expressions.ExprTree.{ExprTree}
use Rattle.og_syntax.specs.declared.expressions.ExprTree.TheVariants as exprs
use Rattle.og_language.specs.Symbols.{symbols, expression}
use Rattle.og_language.specs.Trees.{one_or, compare_of, sum_of, product_of, field_of, grouped}
use Rattle.og_language.specs.Grammar as g
use Rattle.og_canonical.specs.Tokens as c
use Rattle.og_canonical.specs.Expressions.{Shown, at_least, shown}
use Rattle.og_reread.proofs.Again.{Writes, w_text, w_give, w_seq, w_map, w_left, w_right, w_hole}
use Rattle.og_reread.proofs.Tokens.{w_mark}
use Rattle.og_reread.proofs.Lists.{w_before}
use Rattle.og_reread.proofs.Sames.{SameExpr}

-- the rule of a level
abbrev pub rule_at : ℕ → Rule symbols ExprTree
rule_at zero = g.expression_rule
rule_at (suc zero) = g.expression_rule
rule_at (suc (suc zero)) = g.conjunction
rule_at (suc (suc (suc zero))) = g.inversion
rule_at (suc (suc (suc (suc zero)))) = g.comparison
rule_at (suc (suc (suc (suc (suc zero))))) = g.sum
rule_at (suc (suc (suc (suc (suc (suc zero)))))) = g.product
rule_at (suc (suc (suc (suc (suc (suc (suc zero))))))) = g.unary
rule_at (suc (suc (suc (suc (suc (suc (suc (suc n)))))))) = g.field

-- The expression is written without brackets round it, at its own level.
abbrev pub Whole : ExprTree → Type 0
Whole e = Writes (rule_at (shown e).level) (shown e).text (SameExpr e)

-- by what the expression is shown as
pub whole : (e : ExprTree) (level : ℕ) (text : List ℕ) → shown e ≡ record { level = level; text = text }
    → Writes (rule_at level) text (SameExpr e) → Whole e
whole e level text is w = subst (λ (s : Shown). Writes (rule_at s.level) s.text (SameExpr e)) (sym is) w

module _ (t : List ℕ) (P : ExprTree → Type 0) where
  -- a list of one such
  abbrev IsOne : List ExprTree → Type 0
  IsOne es = (e : ExprTree) × (es ≡ e ∷ []) × P e

  one_alone : (h : ℕ → List ExprTree → ExprTree) (es : List ExprTree) → IsOne es → P (one_or h es)
  one_alone h es (e, same, is) = subst (λ l. P (one_or h l)) (sym same) is

  -- one part, with nothing behind it
  w_alone : {A : Type 0} (f : Rule symbols ExprTree) (more : Rule symbols A) (h : ExprTree × A → ExprTree) (none : A) → Writes more [] (λ a. a ≡ none)
      → ((e : ExprTree) → h (e, none) ≡ e) → Writes f t P → Writes (map h (seq f more)) t P
  w_alone f more h none nothing first w =
      w_text (map h (seq f more)) (t ++ []) t P (append-nil t)
      (w_map h (seq f more) (t ++ []) (λ v. P v.0 × (v.1 ≡ none)) P
      (λ v is. subst P (sym (ap (λ a. h (v.0, a)) is.1 ∙ first v.0)) is.0)
      (w_seq f more t [] P (λ a. a ≡ none) w nothing))

  w_none : {A : Type 0} (f : Rule symbols A) → Writes (star f) [] (λ vs. vs ≡ [])
  w_none f = record { row = []; good = tt; is_text = refl; spelled = λ place. ([], refl, refl) }

  w_single : (k : terminals.the_data) (f : Rule symbols ExprTree) → Writes f t P → Writes (rules.separated k f) t IsOne
  w_single k f w =
      w_text (rules.separated k f) (t ++ []) t IsOne (append-nil t)
      (w_map (λ v. v.0 ∷ v.1) (seq f (star (rules.behind (rules.place_of k) f))) (t ++ []) (λ v. P v.0 × (v.1 ≡ [])) IsOne
      (λ v is. (v.0, ap (λ l. v.0 ∷ l) is.1, is.0))
      (w_seq f (star (rules.behind (rules.place_of k) f)) t [] P (λ a. a ≡ []) w (w_none (rules.behind (rules.place_of k) f))))

  w_one_of : (k : terminals.the_data) (f : Rule symbols ExprTree) (h : ℕ → List ExprTree → ExprTree) → Writes f t P
      → Writes (map (one_or h) (rules.separated k f)) t P
  w_one_of k f h w = w_map (one_or h) (rules.separated k f) t IsOne P (one_alone h) (w_single k f w)

  -- one level down
  pub down : (l : ℕ) → Writes (rule_at (suc l)) t P → Writes (rule_at l) t P
  unfolding g.expression_rule g.conjunctions g.conjunction g.inversions g.inversion g.comparison g.sum g.sum_parts g.product g.product_parts g.unary
  down zero w = w
  down (suc zero) w = w_one_of (terminals.Word words.Or) g.conjunction exprs.Or w
  down (suc (suc zero)) w = w_one_of (terminals.Word words.And) g.inversion exprs.And w
  down (suc (suc (suc zero))) w = w_right (map (λ v. exprs.Not v.0 v.1) (seq (rules.word words.Not) g.comparison)) g.comparison t P w
  down (suc (suc (suc (suc zero)))) w =
      w_alone g.sum (rules.opt g.compared) (λ v. compare_of v.0 v.1) None
      (w_right (map Some g.compared) (give None) [] (λ a. a ≡ None) (w_give None (λ a. a ≡ None) refl)) (λ e. refl) w
  down (suc (suc (suc (suc (suc zero))))) w =
      w_alone g.product (star g.sum_part) (λ v. sum_of v.0 v.1) [] (w_none g.sum_part) (λ e. refl) w
  down (suc (suc (suc (suc (suc (suc zero)))))) w =
      w_alone g.unary (star g.product_part) (λ v. product_of v.0 v.1) [] (w_none g.product_part) (λ e. refl) w
  down (suc (suc (suc (suc (suc (suc (suc zero))))))) w =
      w_right g.negation (alt (map (λ v. exprs.Number v.0 (Rattle.std.specs.Prelude.pos v.1)) (at rules.number)) g.field) t P
      (w_right (map (λ v. exprs.Number v.0 (Rattle.std.specs.Prelude.pos v.1)) (at rules.number)) g.field t P w)
  down (suc (suc (suc (suc (suc (suc (suc (suc n)))))))) w = w

  -- any number of levels down
  pub climb : (k l n : ℕ) → n ≡ k + l → Writes (rule_at n) t P → Writes (rule_at l) t P
  climb zero l n is w = let same : n ≡ l = omega (arith, is) in subst (λ i. Writes (rule_at i) t P) same w
  climb (suc k) l n is w =
      let same : n ≡ suc (k + l) = omega (arith, is) in
      climb k l (k + l) refl (down (k + l) (subst (λ i. Writes (rule_at i) t P) same w))

  -- a primary with no components
  pub w_primary : Writes g.primary t P → Writes g.field t P
  unfolding g.field g.path
  w_primary w = w_alone g.primary (star g.component) (λ v. field_of v.0 v.1) [] (w_none g.component) (λ e. refl) w

  pub w_form : Writes g.form t P → Writes g.primary t P
  unfolding g.primary
  w_form w =
      w_right g.named (alt under (alt g.flag g.form)) t P (w_right under (alt g.flag g.form) t P (w_right g.flag g.form t P w))
    where
      under : Rule symbols ExprTree
      under = map (λ v. exprs.Name v.0 v.1) (at (rules.spelling_of terminals.Under))

  -- in brackets, where the grammar asks for the highest level
  inner : Writes g.expression_rule t P → Writes (rules.before g.some_exprs (rules.mark marks.RightParen)) (t ++ c.mark marks.RightParen) IsOne
  unfolding g.some_exprs
  inner v =
      w_before g.some_exprs (rules.mark marks.RightParen) t (c.mark marks.RightParen) IsOne (λ _. Unit {0})
      (w_single (terminals.Mark marks.Comma) g.expr (w_hole expression t P v)) (w_mark marks.RightParen)

  in_group : Writes g.expression_rule t P → Writes g.group (c.in_parens t) P
  unfolding g.group
  in_group v =
      w_map (λ x. grouped x.0 x.1) (seq (rules.mark marks.LeftParen) (rules.before g.some_exprs (rules.mark marks.RightParen))) (c.in_parens t)
      (λ x. Unit {0} × IsOne x.1) P (λ x is. one_alone (λ first es. exprs.Tuple x.0 es) x.1 is.1)
      (w_text (seq (rules.mark marks.LeftParen) (rules.before g.some_exprs (rules.mark marks.RightParen)))
      (c.mark marks.LeftParen ++ (t ++ c.mark marks.RightParen)) (c.in_parens t) (λ x. Unit {0} × IsOne x.1)
      (sym (append_assoc (c.mark marks.LeftParen) t (c.mark marks.RightParen)))
      (w_seq (rules.mark marks.LeftParen) (rules.before g.some_exprs (rules.mark marks.RightParen)) (c.mark marks.LeftParen) (t ++ c.mark marks.RightParen)
      (λ _. Unit {0}) IsOne (w_mark marks.LeftParen) (inner v)))

  pub w_group_form : Writes g.group t P → Writes g.form t P
  unfolding g.form
  w_group_form v = w_left g.group (alt g.choice (alt g.table (alt g.ratio (alt g.extremum g.clamp)))) t P v

-- ---- wherever some level is asked for

-- as an expression, whatever its level
pub anywhere_rule : (e : ExprTree) → Whole e → Writes g.expression_rule (shown e).text (SameExpr e)
anywhere_rule e w = climb (shown e).text (SameExpr e) (shown e).level 0 (shown e).level (omega arith) w

pub writes_primary_brackets : (e : ExprTree) → Whole e → Writes g.primary (c.in_parens (shown e).text) (SameExpr e)
writes_primary_brackets e w =
    w_form (c.in_parens (shown e).text) (SameExpr e)
    (w_group_form (c.in_parens (shown e).text) (SameExpr e) (in_group (shown e).text (SameExpr e) (anywhere_rule e w)))

pub writes_at : (n : ℕ) → n ≤ 8 → (e : ExprTree) → Whole e → Writes (rule_at n) (at_least n (shown e)) (SameExpr e)
unfolding at_least
writes_at n le e w = by_level (nat_lt (shown e).level n) refl
  where
    by_level : (b : Bool) → nat_lt (shown e).level n ≡ b → Writes (rule_at n) (cond b (c.in_parens (shown e).text) (shown e).text) (SameExpr e)
    by_level true below =
        climb (c.in_parens (shown e).text) (SameExpr e) (8 - n) n 8 (omega (arith, le))
        (w_primary (c.in_parens (shown e).text) (SameExpr e) (writes_primary_brackets e w))
    by_level false above =
        climb (shown e).text (SameExpr e) ((shown e).level - n) n (shown e).level (omega (arith, leb_of above)) w
      where
        leb_of : nat_lt (shown e).level n ≡ false → n ≤ (shown e).level
        leb_of above_it = elim (cases_lt (shown e).level n) [
          | inl less ↦ let yes = lt-ltb (shown e).level n less in cc
          | inr more ↦ more
        ]
