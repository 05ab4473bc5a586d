-- Every expression that real tokens spell is written at its own level.
use Rattle.std.proofs.Common.{◌≡◌, ◌∙◌, ◌⊎◌, ℕ, ◌^◌, ◌<◌, pos, true, false, not, ◌==◌, List, [], ◌∷◌, ◌++◌, Option, None, Some, inl, inr, refl, sym, ap, subst, arith, append_assoc}
use Rattle.std.proofs.Common.{map as each}
use Rattle.std.specs.Prelude.{flat_map, unsigned_abs, IfSome}
use Rattle.std.specs.List.{AllByRecursion, AllZip}
use Rattle.std.proofs.lemmas.List.{append-nil}
use Rattle.std.proofs.lemmas.Int.{ints}
use Rattle.og_lex.specs.declared.token.Mark.TheVariants as marks
use Rattle.og_lex.specs.declared.token.Word.TheVariants as words
use Rattle.og_grammar.specs.declared.terminal.Terminal.TheVariants as terminals
use Rattle.og_grammar.specs.Rule.{Meaning, Rule, seq, alt, star, map, give, at}
use Rattle.og_grammar.specs.Combinators as rules
use Rattle.og_syntax.specs.declared.expressions.ExprTree.{ExprTree}
use Rattle.og_syntax.specs.declared.expressions.ExprTree.TheVariants as exprs
use Rattle.og_syntax.specs.declared.expressions.CompareOp.{CompareOp}
use Rattle.og_syntax.specs.declared.expressions.CompareOp.TheVariants as ops
use Rattle.og_syntax.specs.declared.expressions.SumPart.{SumPart}
use Rattle.og_syntax.specs.declared.expressions.SumPart.TheVariants as sums
use Rattle.og_syntax.specs.declared.expressions.ProductPart.{ProductPart}
use Rattle.og_syntax.specs.declared.expressions.ProductPart.TheVariants as products
use Rattle.og_syntax.specs.Places.{expr_place}
use Rattle.og_syntax.specs.Unplaced.{value_unplaced}
use Rattle.og_language.specs.Symbols.{symbols}
use Rattle.og_language.specs.Trees.{one_or, grouped, negative, negated, sum_of, product_of, compare_of, field_of, named_of}
use Rattle.og_language.specs.Grammar as g
use Rattle.og_canonical.specs.Tokens as c
use Rattle.og_canonical.specs.Types.{ty_text, range_text}
use Rattle.og_canonical.specs.Values.{key_text}
use Rattle.og_canonical.specs.Expressions.{at_least, shown, expr_text, exprs_text, result_text, results_text, path_text, arm_text, table_row_text, op_mark}
use Rattle.og_canonical.proofs.ExprForms as forms
use Rattle.og_reread.specs.Lexemes.{IsLexeme}
use Rattle.og_reread.proofs.Again.{Writes, w_map, w_left, w_right, Again, a_give, a_seq, a_alt, a_map, a_at, a_as, a_star}
use Rattle.og_reread.proofs.Tokens.{Equal, Whatever, w_mark, w_number, a_name, a_under, a_mark, a_word, a_number, number_small}
use Rattle.og_reread.proofs.Lists.{w_behind, a_within, a_behind_mark, a_before_mark, a_behind_word, a_parens, a_braces, a_commas, a_commas_or_none, a_separated}
use Rattle.og_reread.proofs.Sames.{SameTy, SameValue, SameExpr, SameResult, same_lists}
use Rattle.og_reread.proofs.Turns.{Turns, IsSeveral, t_any, t_map, t_weaker, t_seq, t_alt, t_star, t_behind, t_before, t_at, t_opt, t_separated}
use Rattle.og_reread.proofs.Joins.{join3, join4, join5}
use Rattle.og_reread.proofs.Results.{a_result}
use Rattle.og_reread.proofs.ExprForms.{SameArm, SameTableRow, SameSum, SameProduct, same_flag, same_name, same_call, same_if, same_table, same_ratio, same_min, same_max, same_clamp}
use Rattle.og_reread.proofs.ExprLevels.{Whole, writes_at}
use Rattle.og_reread.proofs.ExprWriting.{Tight, tight, tight_whole, tight_form, w_expr, SumWritten, ProductWritten, whole_or, whole_and, whole_tuple, whole_not, whole_compare, whole_sum, whole_product, whole_number, whole_neg, whole_components}

-- what may be there, as its text, and when it is the same
abbrev opt_text : {A : Type 0} → (A → List ℕ) → Option A → List ℕ
opt_text t None = []
opt_text t (Some a) = t a

abbrev SameOpt : {A : Type 0} → (A → A → Type 0) → Option A → Option A → Type 0
SameOpt S None None = Unit {0}
SameOpt S (Some a) (Some b) = S a b
SameOpt S None (Some b) = ⊥
SameOpt S (Some a) None = ⊥

-- a variable that begins with an underscore
abbrev under : Rule symbols ExprTree
under = map (λ v. exprs.Name v.0 v.1) (at (rules.spelling_of terminals.Under))

named_shown : (v : ℕ × (List ℕ × Option (List ExprTree)))
    → shown (named_of v.0 v.1.0 v.1.1) ≡ record { level = 8; text = c.spaced v.1.0 ++ opt_text (λ es. c.in_parens (exprs_text es)) v.1.1 }
named_shown (place, (name, None)) = forms.shown_name place name ∙ ap (λ l. record { level = 8; text = l }) (sym (append-nil (c.spaced name)))
named_shown (place, (name, Some es)) = forms.shown_call place name es

named_same : (v w : ℕ × (List ℕ × Option (List ExprTree))) → Equal v.1.0 w.1.0 → SameOpt (AllZip SameExpr) v.1.1 w.1.1
    → SameExpr (named_of v.0 v.1.0 v.1.1) (named_of w.0 w.1.0 w.1.1)
named_same (place, (name, None)) (there, (other, None)) is s =
    subst (λ n. SameExpr (exprs.Name place name) (exprs.Name there n)) (sym is) (same_name place there name)
named_same (place, (name, Some es)) (there, (other, Some fs)) is s =
    subst (λ n. SameExpr (exprs.Call place name es) (exprs.Call there n fs)) (sym is) (same_call place there name es fs s)
named_same (place, (name, None)) (there, (other, Some fs)) is s = absurd s
named_same (place, (name, Some es)) (there, (other, None)) is s = absurd s

-- what stands behind a minus, and what stands behind a comparison
abbrev Behind : ℕ ⊎ ExprTree → Type 0
Behind (inl n) = n < 2 ^ 63
Behind (inr e) = Whole e

abbrev Compared : CompareOp × ExprTree → Type 0
Compared more = Writes g.comparison_mark (c.mark (op_mark more.0)) (Equal more.0) × Whole more.1

-- two parts with a comma between, and three
two_text : (t u : List ℕ) → t ++ (c.mark marks.Comma ++ u) ≡ c.commas (t ∷ u ∷ [])
two_text t u = ap (λ l. t ++ l) (sym (append-nil (c.mark marks.Comma ++ u)))

three_text : (t u v : List ℕ) → t ++ (c.mark marks.Comma ++ (u ++ (c.mark marks.Comma ++ v))) ≡ c.commas (t ∷ u ∷ v ∷ [])
three_text t u v =
    ap (λ l. t ++ l) (sym (append_assoc (c.mark marks.Comma) u (c.mark marks.Comma ++ v)) ∙ ap (λ l. (c.mark marks.Comma ++ u) ++ l) (sym (append-nil (c.mark marks.Comma ++ v))))

module _ (m : Meaning symbols) where
  a_opt : {A : Type 0} (f : Rule symbols A) (t : A → List ℕ) (S : A → A → Type 0) → Again m f t S
      → Again m (rules.opt f) (opt_text t) (SameOpt S)
  a_opt f t S p =
      a_alt m (map Some f) (give None) (opt_text t) (SameOpt S)
      (a_map m Some f t S (opt_text t) (SameOpt S) (λ a. refl) (λ a b s. s) p)
      (a_give m None (opt_text t) (SameOpt S) refl tt)

  -- a form at the highest level, by its parts
  t_tight : {A : Type 0} (h : A → ExprTree) (f : Rule symbols A) (t : A → List ℕ) (S : A → A → Type 0)
      → ((a : A) → shown (h a) ≡ record { level = 8; text = t a }) → ((a b : A) → S a b → SameExpr (h a) (h b)) → Again m f t S
      → Turns m (map h f) (Tight (map h f))
  t_tight h f t S is same p =
      t_map m h f (λ a. Writes f (t a) (S a)) (Tight (map h f))
      (λ a w. tight (map h f) (h a) (t a) (is a) (w_map h f (t a) (S a) (SameExpr (h a)) (same a) w)) (record { such = p })

  t_tight_alt : (f h : Rule symbols ExprTree) → Turns m f (Tight f) → Turns m h (Tight h) → Turns m (alt f h) (Tight (alt f h))
  t_tight_alt f h p q =
      t_alt m f h (Tight (alt f h))
      (t_weaker m f (Tight f) (Tight (alt f h)) (λ e t. (t.0, w_left f h (shown e).text (SameExpr e) t.1)) p)
      (t_weaker m h (Tight h) (Tight (alt f h)) (λ e t. (t.0, w_right f h (shown e).text (SameExpr e) t.1)) q)

  t_small : Turns m rules.number (λ n. n < 2 ^ 63)
  t_small = record {
    such = λ ts v real p.
        subst (λ n. n < 2 ^ 63) (sym p.2) (number_small m p.0 (subst (AllByRecursion IsLexeme) p.1.0 real).0 p.1.1);
  }

  a_nonzero : Again m g.nonzero c.number Equal
  unfolding g.nonzero
  a_nonzero ts v real (t, (is, same, passes), made) =
      subst (λ n. Writes g.nonzero (c.number n) (Equal n)) (sym made)
      (w_number t.value (number_small m t (subst (AllByRecursion IsLexeme) is real).0 same) (λ u. not (u.value == 0)) (λ u e. ap (λ n. not (n == 0)) e ∙ passes))

  a_comparison_mark : Again m g.comparison_mark (λ op. c.mark (op_mark op)) Equal
  unfolding g.comparison_mark
  a_comparison_mark =
      next ops.Equal (alt _ (alt _ (alt _ (alt _ _)))) (of ops.Equal)
      (next ops.Differs (alt _ (alt _ (alt _ _))) (of ops.Differs)
      (next ops.Less (alt _ (alt _ _)) (of ops.Less)
      (next ops.AtMost (alt _ _) (of ops.AtMost)
      (next ops.Greater _ (of ops.Greater) (of ops.AtLeast)))))
    where
      sign : CompareOp → Rule symbols CompareOp
      sign op = map (λ _. op) (rules.mark (op_mark op))

      of : (op : CompareOp) → Again m (sign op) (λ o. c.mark (op_mark o)) Equal
      of op = a_map m (λ _. op) (rules.mark (op_mark op)) (λ _. c.mark (op_mark op)) Whatever (λ o. c.mark (op_mark o)) Equal (λ a. refl) (λ a b s. refl) (a_mark m (op_mark op))

      next : (op : CompareOp) (rest : Rule symbols CompareOp) → Again m (sign op) (λ o. c.mark (op_mark o)) Equal → Again m rest (λ o. c.mark (op_mark o)) Equal
          → Again m (alt (sign op) rest) (λ o. c.mark (op_mark o)) Equal
      next op rest p q = a_alt m (sign op) rest (λ o. c.mark (op_mark o)) Equal p q

  same_path : (ks ls : List ℕ) → AllZip Equal ks ls → ls ≡ ks
  same_path [] [] s = refl
  same_path (k ∷ ks) (l ∷ ls) (is, more) = λ i. is i ∷ same_path ks ls more i
  same_path [] (l ∷ ls) s = absurd s
  same_path (k ∷ ks) [] s = absurd s

  a_path : Again m g.path path_text Equal
  unfolding g.path g.component
  a_path =
      a_as m (star (rules.behind (rules.mark marks.Dot) rules.number)) (flat_map (λ k. c.mark marks.Dot ++ c.number k)) path_text (AllZip Equal) Equal
      (λ ks. refl) same_path (a_star m (rules.behind (rules.mark marks.Dot) rules.number) (λ k. c.mark marks.Dot ++ c.number k) Equal
      (a_behind_mark m marks.Dot rules.number c.number Equal (a_number m)))

-- ---- by the expressions, types and keys inside

module _ (m : Meaning symbols) (below : Turns m g.expr Whole) (types : Again m g.ty ty_text SameTy)
    (row_keys : Again m g.table_key (λ v. key_text v.1) (λ v w. AllZip SameValue v.1 w.1))
    (limits : Again m g.limits (λ v. range_text v.1.0 v.1.1) (λ v w. w.1 ≡ v.1)) where
  pub a_expr : Again m g.expr expr_text SameExpr
  a_expr ts e real is = w_expr e (below.such ts e real is)

  pub a_exprs_or_none : Again m g.exprs_or_none exprs_text (AllZip SameExpr)
  unfolding g.exprs_or_none
  a_exprs_or_none = a_commas_or_none m g.expr expr_text SameExpr a_expr

  t_named : Turns m g.named (Tight g.named)
  unfolding g.named g.name g.args_in_brackets
  t_named =
      t_tight m (λ v. named_of v.0 v.1.0 v.1.1) (at (seq g.name (rules.opt g.args_in_brackets)))
      (λ v. c.spaced v.1.0 ++ opt_text (λ es. c.in_parens (exprs_text es)) v.1.1) (λ v w. Equal v.1.0 w.1.0 × SameOpt (AllZip SameExpr) v.1.1 w.1.1)
      named_shown (λ v w s. named_same v w s.0 s.1)
      (a_at m (seq g.name (rules.opt g.args_in_brackets)) (λ v. c.spaced v.0 ++ opt_text (λ es. c.in_parens (exprs_text es)) v.1)
      (λ v w. Equal v.0 w.0 × SameOpt (AllZip SameExpr) v.1 w.1)
      (a_seq m g.name (rules.opt g.args_in_brackets) c.spaced (opt_text (λ es. c.in_parens (exprs_text es))) Equal (SameOpt (AllZip SameExpr)) (a_name m)
      (a_opt m g.args_in_brackets (λ es. c.in_parens (exprs_text es)) (AllZip SameExpr) (a_parens m g.exprs_or_none exprs_text (AllZip SameExpr) a_exprs_or_none))))

  t_under : Turns m under (Tight under)
  t_under =
      t_tight m (λ v. exprs.Name v.0 v.1) (at (rules.spelling_of terminals.Under)) (λ v. c.spaced v.1) (λ v w. Equal v.1 w.1)
      (λ v. forms.shown_name v.0 v.1)
      (λ v w is. subst (λ n. SameExpr (exprs.Name v.0 v.1) (exprs.Name w.0 n)) (sym is) (same_name v.0 w.0 v.1))
      (a_at m (rules.spelling_of terminals.Under) c.spaced Equal (a_under m))

  t_flag : Turns m g.flag (Tight g.flag)
  unfolding g.flag
  t_flag =
      t_tight_alt m (map (λ place. exprs.Flag place true) (rules.word words.True)) (map (λ place. exprs.Flag place false) (rules.word words.False))
      (t_tight m (λ place. exprs.Flag place true) (rules.word words.True) (λ _. c.word words.True) Whatever (λ p. forms.shown_flag p true) (λ p q s. same_flag p q true) (a_word m words.True))
      (t_tight m (λ place. exprs.Flag place false) (rules.word words.False) (λ _. c.word words.False) Whatever (λ p. forms.shown_flag p false) (λ p q s. same_flag p q false) (a_word m words.False))

  group_whole : (v : ℕ × List ExprTree) → Unit {0} × IsSeveral Whole v.1 → Whole (grouped v.0 v.1)
  group_whole (place, []) is = absurd is.1
  group_whole (place, e ∷ []) is = is.1.0
  group_whole (place, e ∷ f ∷ es) is = whole_tuple place e f es is.1

  t_group : Turns m g.group Whole
  unfolding g.group g.some_exprs
  t_group =
      t_map m (λ v. grouped v.0 v.1) (seq (rules.mark marks.LeftParen) (rules.before (rules.commas g.expr) (rules.mark marks.RightParen)))
      (λ v. Unit {0} × IsSeveral Whole v.1) Whole group_whole
      (t_seq m (rules.mark marks.LeftParen) (rules.before (rules.commas g.expr) (rules.mark marks.RightParen)) (λ _. Unit {0}) (IsSeveral Whole) (t_any m (rules.mark marks.LeftParen))
      (t_before m (rules.commas g.expr) (rules.mark marks.RightParen) (IsSeveral Whole) (t_separated m (terminals.Mark marks.Comma) g.expr Whole below)))

  t_choice : Turns m g.choice (Tight g.choice)
  unfolding g.choice g.arms g.arm g.otherwise
  t_choice =
      t_tight m (λ v. exprs.If v.0 v.1.0 v.1.1) (seq (rules.word words.If) (seq g.arms g.otherwise))
      (λ v. c.word words.If ++ (c.joined (c.word words.Elif) (each (arm_text expr_text) v.1.0) ++ (c.word words.Else ++ (expr_text v.1.1 ++ c.word words.End))))
      (λ v w. Unit {0} × (AllZip SameArm v.1.0 w.1.0 × SameExpr v.1.1 w.1.1))
      (λ v. forms.shown_if v.0 v.1.0 v.1.1 ∙ ap (λ l. record { level = 8; text = l })
      (sym (join5 (c.word words.If) (c.joined (c.word words.Elif) (each (arm_text expr_text) v.1.0)) (c.word words.Else) (expr_text v.1.1) (c.word words.End))))
      (λ v w s. same_if v.0 w.0 v.1.0 w.1.0 v.1.1 w.1.1 s.1.0 s.1.1)
      (a_seq m (rules.word words.If) (seq g.arms g.otherwise) (λ _. c.word words.If)
      (λ v. c.joined (c.word words.Elif) (each (arm_text expr_text) v.0) ++ (c.word words.Else ++ (expr_text v.1 ++ c.word words.End)))
      Whatever (λ v w. AllZip SameArm v.0 w.0 × SameExpr v.1 w.1) (a_word m words.If)
      (a_seq m g.arms g.otherwise (λ xs. c.joined (c.word words.Elif) (each (arm_text expr_text) xs)) (λ e. c.word words.Else ++ (expr_text e ++ c.word words.End))
      (AllZip SameArm) SameExpr
      (a_separated m (terminals.Word words.Elif) (c.word words.Elif) (a_word m words.Elif) g.arm (arm_text expr_text) SameArm
      (a_map m (λ v. record { cond = v.0; body = v.1 }) (seq g.expr (rules.behind (rules.word words.Then) g.expr)) (λ v. expr_text v.0 ++ (c.word words.Then ++ expr_text v.1))
      (λ v w. SameExpr v.0 w.0 × SameExpr v.1 w.1) (arm_text expr_text) SameArm (λ v. sym (append_assoc (expr_text v.0) (c.word words.Then) (expr_text v.1))) (λ v w s. s)
      (a_seq m g.expr (rules.behind (rules.word words.Then) g.expr) expr_text (λ e. c.word words.Then ++ expr_text e) SameExpr SameExpr a_expr
      (a_behind_word m words.Then g.expr expr_text SameExpr a_expr))))
      (a_within m (rules.word words.Else) g.expr (rules.word words.End) (c.word words.Else) expr_text (c.word words.End) Whatever SameExpr Whatever (a_word m words.Else) a_expr (a_word m words.End))))

  a_row : Again m g.table_row (table_row_text expr_text) SameTableRow
  unfolding g.table_row
  a_row =
      a_map m (λ v. record { at = v.0.0; key = v.0.1; body = v.1 }) (seq g.table_key (rules.behind (rules.mark marks.Arrow) (rules.before g.expr (rules.mark marks.Semicolon))))
      (λ v. key_text v.0.1 ++ (c.mark marks.Arrow ++ (expr_text v.1 ++ c.mark marks.Semicolon))) (λ v w. AllZip SameValue v.0.1 w.0.1 × SameExpr v.1 w.1)
      (table_row_text expr_text) SameTableRow
      (λ v. join4 (key_text v.0.1) (c.mark marks.Arrow) (expr_text v.1) (c.mark marks.Semicolon))
      (λ v w s i. record { at = 0; key = same_lists value_unplaced v.0.1 w.0.1 s.0 i; body = s.1 i })
      (a_seq m g.table_key (rules.behind (rules.mark marks.Arrow) (rules.before g.expr (rules.mark marks.Semicolon))) (λ v. key_text v.1)
      (λ e. c.mark marks.Arrow ++ (expr_text e ++ c.mark marks.Semicolon)) (λ v w. AllZip SameValue v.1 w.1) SameExpr row_keys
      (a_behind_mark m marks.Arrow (rules.before g.expr (rules.mark marks.Semicolon)) (λ e. expr_text e ++ c.mark marks.Semicolon) SameExpr
      (a_before_mark m marks.Semicolon g.expr expr_text SameExpr a_expr)))

  t_table : Turns m g.table (Tight g.table)
  unfolding g.table g.table_keys g.some_results g.table_rows g.table_rows_or_none
  t_table =
      t_tight m (λ v. exprs.Table v.0 v.1.0 v.1.1) (seq (rules.word words.Table) (seq g.table_keys g.table_rows))
      (λ v. c.word words.Table ++ (c.in_parens (results_text v.1.0) ++ c.in_braces (flat_map (table_row_text expr_text) v.1.1)))
      (λ v w. Unit {0} × (AllZip SameResult v.1.0 w.1.0 × AllZip SameTableRow v.1.1 w.1.1))
      (λ v. forms.shown_table v.0 v.1.0 v.1.1 ∙ ap (λ l. record { level = 8; text = l })
      (sym (join3 (c.word words.Table) (c.in_parens (results_text v.1.0)) (c.in_braces (flat_map (table_row_text expr_text) v.1.1)))))
      (λ v w s. same_table v.0 w.0 v.1.0 w.1.0 v.1.1 w.1.1 s.1.0 s.1.1)
      (a_seq m (rules.word words.Table) (seq g.table_keys g.table_rows) (λ _. c.word words.Table)
      (λ v. c.in_parens (results_text v.0) ++ c.in_braces (flat_map (table_row_text expr_text) v.1)) Whatever
      (λ v w. AllZip SameResult v.0 w.0 × AllZip SameTableRow v.1 w.1) (a_word m words.Table)
      (a_seq m g.table_keys g.table_rows (λ keys. c.in_parens (results_text keys)) (λ rows. c.in_braces (flat_map (table_row_text expr_text) rows))
      (AllZip SameResult) (AllZip SameTableRow)
      (a_parens m (rules.commas g.result) results_text (AllZip SameResult) (a_commas m g.result result_text SameResult (a_result m a_expr types)))
      (a_braces m (star g.table_row) (flat_map (table_row_text expr_text)) (AllZip SameTableRow) (a_star m g.table_row (table_row_text expr_text) SameTableRow a_row))))

  a_two : Again m g.two_exprs (λ v. expr_text v.0 ++ (c.mark marks.Comma ++ expr_text v.1)) (λ v w. SameExpr v.0 w.0 × SameExpr v.1 w.1)
  unfolding g.two_exprs
  a_two =
      a_seq m g.expr (rules.behind (rules.mark marks.Comma) g.expr) expr_text (λ e. c.mark marks.Comma ++ expr_text e) SameExpr SameExpr a_expr
      (a_behind_mark m marks.Comma g.expr expr_text SameExpr a_expr)

  a_pair : Again m g.pair (λ v. c.in_parens (c.commas (expr_text v.0 ∷ expr_text v.1 ∷ []))) (λ v w. SameExpr v.0 w.0 × SameExpr v.1 w.1)
  unfolding g.pair
  a_pair =
      a_parens m g.two_exprs (λ v. c.commas (expr_text v.0 ∷ expr_text v.1 ∷ [])) (λ v w. SameExpr v.0 w.0 × SameExpr v.1 w.1)
      (a_as m g.two_exprs (λ v. expr_text v.0 ++ (c.mark marks.Comma ++ expr_text v.1)) (λ v. c.commas (expr_text v.0 ∷ expr_text v.1 ∷ []))
      (λ v w. SameExpr v.0 w.0 × SameExpr v.1 w.1) (λ v w. SameExpr v.0 w.0 × SameExpr v.1 w.1) (λ v. two_text (expr_text v.0) (expr_text v.1)) (λ v w s. s) a_two)

  abbrev SameThree : ExprTree × (ExprTree × ExprTree) → ExprTree × (ExprTree × ExprTree) → Type 0
  SameThree v w = SameExpr v.0 w.0 × (SameExpr v.1.0 w.1.0 × SameExpr v.1.1 w.1.1)

  a_triple : Again m g.triple (λ v. c.in_parens (c.commas (expr_text v.0 ∷ expr_text v.1.0 ∷ expr_text v.1.1 ∷ []))) SameThree
  unfolding g.triple
  a_triple =
      let inside = seq g.expr (rules.behind (rules.mark marks.Comma) g.two_exprs) in
      a_parens m inside (λ v. c.commas (expr_text v.0 ∷ expr_text v.1.0 ∷ expr_text v.1.1 ∷ [])) SameThree
      (a_as m inside (λ v. expr_text v.0 ++ (c.mark marks.Comma ++ (expr_text v.1.0 ++ (c.mark marks.Comma ++ expr_text v.1.1))))
      (λ v. c.commas (expr_text v.0 ∷ expr_text v.1.0 ∷ expr_text v.1.1 ∷ [])) SameThree SameThree
      (λ v. three_text (expr_text v.0) (expr_text v.1.0) (expr_text v.1.1)) (λ v w s. s)
      (a_seq m g.expr (rules.behind (rules.mark marks.Comma) g.two_exprs) expr_text
      (λ v. c.mark marks.Comma ++ (expr_text v.0 ++ (c.mark marks.Comma ++ expr_text v.1))) SameExpr (λ v w. SameExpr v.0 w.0 × SameExpr v.1 w.1) a_expr
      (a_behind_mark m marks.Comma g.two_exprs (λ v. expr_text v.0 ++ (c.mark marks.Comma ++ expr_text v.1)) (λ v w. SameExpr v.0 w.0 × SameExpr v.1 w.1) a_two)))

  t_ratio : Turns m g.ratio (Tight g.ratio)
  unfolding g.ratio
  t_ratio =
      t_tight m (λ v. exprs.Ratio v.0 v.1.0 v.1.1.0 v.1.1.1) (seq (rules.word words.Ratio) g.triple)
      (λ v. c.word words.Ratio ++ c.in_parens (c.commas (expr_text v.1.0 ∷ expr_text v.1.1.0 ∷ expr_text v.1.1.1 ∷ []))) (λ v w. Unit {0} × SameThree v.1 w.1)
      (λ v. forms.shown_ratio v.0 v.1.0 v.1.1.0 v.1.1.1)
      (λ v w s. same_ratio v.0 w.0 v.1.0 v.1.1.0 v.1.1.1 w.1.0 w.1.1.0 w.1.1.1 s.1.0 s.1.1.0 s.1.1.1)
      (a_seq m (rules.word words.Ratio) g.triple (λ _. c.word words.Ratio) (λ v. c.in_parens (c.commas (expr_text v.0 ∷ expr_text v.1.0 ∷ expr_text v.1.1 ∷ [])))
      Whatever SameThree (a_word m words.Ratio) a_triple)

  t_extremum : Turns m g.extremum (Tight g.extremum)
  unfolding g.extremum
  t_extremum =
      t_tight_alt m (map (λ v. exprs.Min v.0 v.1.0 v.1.1) (seq (rules.word words.Min) g.pair)) (map (λ v. exprs.Max v.0 v.1.0 v.1.1) (seq (rules.word words.Max) g.pair))
      (t_tight m (λ v. exprs.Min v.0 v.1.0 v.1.1) (seq (rules.word words.Min) g.pair)
      (λ v. c.word words.Min ++ c.in_parens (c.commas (expr_text v.1.0 ∷ expr_text v.1.1 ∷ []))) (λ v w. Unit {0} × (SameExpr v.1.0 w.1.0 × SameExpr v.1.1 w.1.1))
      (λ v. forms.shown_min v.0 v.1.0 v.1.1) (λ v w s. same_min v.0 w.0 v.1.0 v.1.1 w.1.0 w.1.1 s.1.0 s.1.1)
      (a_seq m (rules.word words.Min) g.pair (λ _. c.word words.Min) (λ v. c.in_parens (c.commas (expr_text v.0 ∷ expr_text v.1 ∷ [])))
      Whatever (λ v w. SameExpr v.0 w.0 × SameExpr v.1 w.1) (a_word m words.Min) a_pair))
      (t_tight m (λ v. exprs.Max v.0 v.1.0 v.1.1) (seq (rules.word words.Max) g.pair)
      (λ v. c.word words.Max ++ c.in_parens (c.commas (expr_text v.1.0 ∷ expr_text v.1.1 ∷ []))) (λ v w. Unit {0} × (SameExpr v.1.0 w.1.0 × SameExpr v.1.1 w.1.1))
      (λ v. forms.shown_max v.0 v.1.0 v.1.1) (λ v w s. same_max v.0 w.0 v.1.0 v.1.1 w.1.0 w.1.1 s.1.0 s.1.1)
      (a_seq m (rules.word words.Max) g.pair (λ _. c.word words.Max) (λ v. c.in_parens (c.commas (expr_text v.0 ∷ expr_text v.1 ∷ [])))
      Whatever (λ v w. SameExpr v.0 w.0 × SameExpr v.1 w.1) (a_word m words.Max) a_pair))

  t_clamp : Turns m g.clamp (Tight g.clamp)
  unfolding g.clamp g.bracketed
  t_clamp =
      t_tight m (λ v. exprs.Clamp v.0 v.1.0.0 v.1.0.1.0 v.1.0.1.1 v.1.1) (seq (rules.word words.Clamp) (seq g.limits g.bracketed))
      (λ v. c.word words.Clamp ++ (range_text v.1.0.1.0 v.1.0.1.1 ++ c.in_parens (expr_text v.1.1))) (λ v w. Unit {0} × ((w.1.0.1 ≡ v.1.0.1) × SameExpr v.1.1 w.1.1))
      (λ v. forms.shown_clamp v.0 v.1.0.0 v.1.0.1.0 v.1.0.1.1 v.1.1 ∙ ap (λ l. record { level = 8; text = l })
      (sym (join3 (c.word words.Clamp) (range_text v.1.0.1.0 v.1.0.1.1) (c.in_parens (expr_text v.1.1)))))
      (λ v w s. subst (λ r. SameExpr (exprs.Clamp v.0 v.1.0.0 v.1.0.1.0 v.1.0.1.1 v.1.1) (exprs.Clamp w.0 w.1.0.0 r.0 r.1 w.1.1)) (sym s.1.0)
      (same_clamp v.0 w.0 v.1.0.0 w.1.0.0 v.1.0.1.0 v.1.0.1.1 v.1.1 w.1.1 s.1.1))
      (a_seq m (rules.word words.Clamp) (seq g.limits g.bracketed) (λ _. c.word words.Clamp) (λ v. range_text v.0.1.0 v.0.1.1 ++ c.in_parens (expr_text v.1))
      Whatever (λ v w. (w.0.1 ≡ v.0.1) × SameExpr v.1 w.1) (a_word m words.Clamp)
      (a_seq m g.limits g.bracketed (λ v. range_text v.1.0 v.1.1) (λ e. c.in_parens (expr_text e)) (λ v w. w.1 ≡ v.1) SameExpr limits
      (a_parens m g.expr expr_text SameExpr a_expr)))

  t_form : Turns m g.form Whole
  unfolding g.form
  t_form =
      t_alt m g.group (alt g.choice (alt g.table (alt g.ratio (alt g.extremum g.clamp)))) Whole t_group
      (t_weaker m (alt g.choice (alt g.table (alt g.ratio (alt g.extremum g.clamp)))) (Tight (alt g.choice (alt g.table (alt g.ratio (alt g.extremum g.clamp))))) Whole
      (λ e t. tight_form e (t.0, w_right g.group (alt g.choice (alt g.table (alt g.ratio (alt g.extremum g.clamp)))) (shown e).text (SameExpr e) t.1))
      (t_tight_alt m g.choice (alt g.table (alt g.ratio (alt g.extremum g.clamp))) t_choice
      (t_tight_alt m g.table (alt g.ratio (alt g.extremum g.clamp)) t_table
      (t_tight_alt m g.ratio (alt g.extremum g.clamp) t_ratio (t_tight_alt m g.extremum g.clamp t_extremum t_clamp)))))

  t_primary : Turns m g.primary Whole
  unfolding g.primary
  t_primary =
      t_alt m g.named (alt under (alt g.flag g.form)) Whole
      (t_weaker m g.named (Tight g.named) Whole (λ e t. tight_whole e (t.0, w_left g.named (alt under (alt g.flag g.form)) (shown e).text (SameExpr e) t.1)) t_named)
      (t_alt m under (alt g.flag g.form) Whole
      (t_weaker m under (Tight under) Whole
      (λ e t. tight_whole e (
        t.0,
        w_right g.named (alt under (alt g.flag g.form)) (shown e).text (SameExpr e)
            (w_left under (alt g.flag g.form) (shown e).text (SameExpr e) t.1),
      )) t_under)
      (t_alt m g.flag g.form Whole
      (t_weaker m g.flag (Tight g.flag) Whole
      (λ e t. tight_whole e (
        t.0,
        w_right g.named (alt under (alt g.flag g.form)) (shown e).text (SameExpr e)
            (w_right under (alt g.flag g.form) (shown e).text (SameExpr e) (w_left g.flag g.form (shown e).text (SameExpr e) t.1)),
      )) t_flag)
      t_form))

  field_whole : (v : ExprTree × List ℕ) → Whole v.0 × Writes g.path (path_text v.1) (Equal v.1) → Whole (field_of v.0 v.1)
  field_whole (p, []) is = is.0
  field_whole (p, k ∷ ks) is = whole_components p k ks is.0 is.1

  t_field : Turns m g.field Whole
  unfolding g.field
  t_field =
      t_map m (λ v. field_of v.0 v.1) (seq g.primary g.path) (λ v. Whole v.0 × Writes g.path (path_text v.1) (Equal v.1)) Whole field_whole
      (t_seq m g.primary g.path Whole (λ ks. Writes g.path (path_text ks) (Equal ks)) t_primary (record { such = a_path m }))

  negative_size : (n : ℕ) → unsigned_abs (negative n) ≡ n
  negative_size n = omega (arith, ints)

  negated_whole : (v : ℕ × (ℕ ⊎ ExprTree)) → Unit {0} × Behind v.1 → Whole (negated v.0 v.1)
  negated_whole (place, inl n) is = whole_number place (negative n) (subst (λ k. k < 2 ^ 63) (sym (negative_size n)) is.1)
  negated_whole (place, inr e) is = whole_neg place e is.1

  t_negation : Turns m g.negation Whole
  unfolding g.negation
  t_negation =
      t_map m (λ v. negated v.0 v.1) (seq (rules.mark marks.Minus) (alt (map inl rules.number) (map inr g.field))) (λ v. Unit {0} × Behind v.1) Whole negated_whole
      (t_seq m (rules.mark marks.Minus) (alt (map inl rules.number) (map inr g.field)) (λ _. Unit {0}) Behind (t_any m (rules.mark marks.Minus))
      (t_alt m (map inl rules.number) (map inr g.field) Behind
      (t_map m inl rules.number (λ n. n < 2 ^ 63) Behind (λ n is. is) (t_small m)) (t_map m inr g.field Whole Behind (λ e is. is) t_field)))

  t_unary : Turns m g.unary Whole
  unfolding g.unary
  t_unary =
      t_alt m g.negation (alt (map (λ v. exprs.Number v.0 (pos v.1)) (at rules.number)) g.field) Whole t_negation
      (t_alt m (map (λ v. exprs.Number v.0 (pos v.1)) (at rules.number)) g.field Whole
      (t_map m (λ v. exprs.Number v.0 (pos v.1)) (at rules.number) (λ v. v.1 < 2 ^ 63) Whole (λ v is. whole_number v.0 (pos v.1) is)
      (t_at m rules.number (λ n. n < 2 ^ 63) (t_small m))) t_field)

  t_product_part : Turns m g.product_part ProductWritten
  unfolding g.product_part
  t_product_part =
      let times = map products.Times (rules.behind (rules.mark marks.Star) g.unary) in
      let over = map products.Over (rules.behind (rules.mark marks.Slash) g.nonzero) in
      t_alt m times over ProductWritten
      (t_map m products.Times (rules.behind (rules.mark marks.Star) g.unary) Whole ProductWritten
      (λ e w. w_left times over (c.mark marks.Star ++ at_least 7 (shown e)) (SameProduct (products.Times e))
      (w_map products.Times (rules.behind (rules.mark marks.Star) g.unary) (c.mark marks.Star ++ at_least 7 (shown e)) (SameExpr e) (SameProduct (products.Times e)) (λ f is. is)
      (w_behind (rules.mark marks.Star) g.unary (c.mark marks.Star) (at_least 7 (shown e)) (λ _. Unit {0}) (SameExpr e) (w_mark marks.Star) (writes_at 7 (omega arith) e w))))
      (t_behind m (rules.mark marks.Star) g.unary Whole t_unary))
      (t_map m products.Over (rules.behind (rules.mark marks.Slash) g.nonzero) (λ n. Writes (rules.behind (rules.mark marks.Slash) g.nonzero) (c.mark marks.Slash ++ c.number n) (Equal n)) ProductWritten
      (λ n w. w_right times over (c.mark marks.Slash ++ c.number n) (SameProduct (products.Over n))
      (w_map products.Over (rules.behind (rules.mark marks.Slash) g.nonzero) (c.mark marks.Slash ++ c.number n) (Equal n) (SameProduct (products.Over n)) (λ k is. is) w))
      (record { such = a_behind_mark m marks.Slash g.nonzero c.number Equal (a_nonzero m) }))

  product_whole : (v : ExprTree × List (ProductPart ExprTree)) → Whole v.0 × AllByRecursion ProductWritten v.1 → Whole (product_of v.0 v.1)
  product_whole (e, []) is = is.0
  product_whole (e, p ∷ ps) is = whole_product (expr_place e) e p ps is.0 is.1

  t_product : Turns m g.product Whole
  unfolding g.product g.product_parts
  t_product =
      t_map m (λ v. product_of v.0 v.1) (seq g.unary (star g.product_part)) (λ v. Whole v.0 × AllByRecursion ProductWritten v.1) Whole product_whole
      (t_seq m g.unary (star g.product_part) Whole (AllByRecursion ProductWritten) t_unary (t_star m g.product_part ProductWritten t_product_part))

  t_sum_part : Turns m g.sum_part SumWritten
  unfolding g.sum_part
  t_sum_part =
      let plus = map sums.Plus (rules.behind (rules.mark marks.Plus) g.product) in
      let minus = map sums.Minus (rules.behind (rules.mark marks.Minus) g.product) in
      t_alt m plus minus SumWritten
      (t_map m sums.Plus (rules.behind (rules.mark marks.Plus) g.product) Whole SumWritten
      (λ e w. w_left plus minus (c.mark marks.Plus ++ at_least 6 (shown e)) (SameSum (sums.Plus e))
      (w_map sums.Plus (rules.behind (rules.mark marks.Plus) g.product) (c.mark marks.Plus ++ at_least 6 (shown e)) (SameExpr e) (SameSum (sums.Plus e)) (λ f is. is)
      (w_behind (rules.mark marks.Plus) g.product (c.mark marks.Plus) (at_least 6 (shown e)) (λ _. Unit {0}) (SameExpr e) (w_mark marks.Plus) (writes_at 6 (omega arith) e w))))
      (t_behind m (rules.mark marks.Plus) g.product Whole t_product))
      (t_map m sums.Minus (rules.behind (rules.mark marks.Minus) g.product) Whole SumWritten
      (λ e w. w_right plus minus (c.mark marks.Minus ++ at_least 6 (shown e)) (SameSum (sums.Minus e))
      (w_map sums.Minus (rules.behind (rules.mark marks.Minus) g.product) (c.mark marks.Minus ++ at_least 6 (shown e)) (SameExpr e) (SameSum (sums.Minus e)) (λ f is. is)
      (w_behind (rules.mark marks.Minus) g.product (c.mark marks.Minus) (at_least 6 (shown e)) (λ _. Unit {0}) (SameExpr e) (w_mark marks.Minus) (writes_at 6 (omega arith) e w))))
      (t_behind m (rules.mark marks.Minus) g.product Whole t_product))

  sum_whole : (v : ExprTree × List (SumPart ExprTree)) → Whole v.0 × AllByRecursion SumWritten v.1 → Whole (sum_of v.0 v.1)
  sum_whole (e, []) is = is.0
  sum_whole (e, p ∷ ps) is = whole_sum (expr_place e) e p ps is.0 is.1

  t_sum : Turns m g.sum Whole
  unfolding g.sum g.sum_parts
  t_sum =
      t_map m (λ v. sum_of v.0 v.1) (seq g.product (star g.sum_part)) (λ v. Whole v.0 × AllByRecursion SumWritten v.1) Whole sum_whole
      (t_seq m g.product (star g.sum_part) Whole (AllByRecursion SumWritten) t_product (t_star m g.sum_part SumWritten t_sum_part))

  compare_whole : (v : ExprTree × Option (CompareOp × ExprTree)) → Whole v.0 × IfSome v.1 Compared → Whole (compare_of v.0 v.1)
  compare_whole (e, None) is = is.0
  compare_whole (e, Some (op, f)) is = whole_compare (expr_place e) op e f is.1.0 is.0 is.1.1

  t_comparison : Turns m g.comparison Whole
  unfolding g.comparison g.compared
  t_comparison =
      t_map m (λ v. compare_of v.0 v.1) (seq g.sum (rules.opt (seq g.comparison_mark g.sum))) (λ v. Whole v.0 × IfSome v.1 Compared) Whole compare_whole
      (t_seq m g.sum (rules.opt (seq g.comparison_mark g.sum)) Whole (λ o. IfSome o Compared) t_sum
      (t_opt m (seq g.comparison_mark g.sum) Compared
      (t_seq m g.comparison_mark g.sum (λ op. Writes g.comparison_mark (c.mark (op_mark op)) (Equal op)) Whole (record { such = a_comparison_mark m }) t_sum)))

  t_inversion : Turns m g.inversion Whole
  unfolding g.inversion
  t_inversion =
      t_alt m (map (λ v. exprs.Not v.0 v.1) (seq (rules.word words.Not) g.comparison)) g.comparison Whole
      (t_map m (λ v. exprs.Not v.0 v.1) (seq (rules.word words.Not) g.comparison) (λ v. Unit {0} × Whole v.1) Whole (λ v is. whole_not v.0 v.1 is.1)
      (t_seq m (rules.word words.Not) g.comparison (λ _. Unit {0}) Whole (t_any m (rules.word words.Not)) t_comparison)) t_comparison

  and_whole : (es : List ExprTree) → IsSeveral Whole es → Whole (one_or exprs.And es)
  and_whole [] is = absurd is
  and_whole (e ∷ []) is = is.0
  and_whole (e ∷ f ∷ es) is = whole_and (expr_place e) e f es is

  or_whole : (es : List ExprTree) → IsSeveral Whole es → Whole (one_or exprs.Or es)
  or_whole [] is = absurd is
  or_whole (e ∷ []) is = is.0
  or_whole (e ∷ f ∷ es) is = whole_or (expr_place e) e f es is

  t_conjunction : Turns m g.conjunction Whole
  unfolding g.conjunction g.inversions
  t_conjunction =
      t_map m (one_or exprs.And) (rules.separated (terminals.Word words.And) g.inversion) (IsSeveral Whole) Whole and_whole
      (t_separated m (terminals.Word words.And) g.inversion Whole t_inversion)

  pub t_expression : Turns m g.expression_rule Whole
  unfolding g.expression_rule g.conjunctions
  t_expression =
      t_map m (one_or exprs.Or) (rules.separated (terminals.Word words.Or) g.conjunction) (IsSeveral Whole) Whole or_whole
      (t_separated m (terminals.Word words.Or) g.conjunction Whole t_conjunction)
