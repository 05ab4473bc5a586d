-- Parts that may be left out, spelled again: those that then are not written, and those that are written empty.
use Rattle.std.proofs.Common.{◌≡◌, ◌∙◌, ℕ, List, [], ◌∷◌, ◌++◌, None, Some, inl, inr, refl, sym, ap, subst}
use Rattle.std.proofs.Common.{map as each}
use Rattle.std.specs.List.{AllZip}
use Rattle.og_lex.specs.declared.token.Mark.TheVariants as marks
use Rattle.og_lex.specs.declared.token.Word.{Word}
use Rattle.og_grammar.specs.Rule.{Meaning, Rule, map, give}
use Rattle.og_grammar.specs.Combinators as rules
use Rattle.og_language.specs.Symbols.{symbols}
use Rattle.og_language.specs.Trees.{or_empty}
use Rattle.og_language.specs.Grammar.{field_or_none}
use Rattle.og_canonical.specs.Tokens as c
use Rattle.og_canonical.specs.Games.{field}
use Rattle.og_reread.proofs.Again.{Writes, w_text, w_give, w_map, w_left, w_right, Again, a_give, a_alt, a_map}
use Rattle.og_reread.proofs.Tokens.{Whatever, w_mark, w_word, a_mark, a_word}
use Rattle.og_reread.proofs.Lists.{w_behind, w_within, a_commas, a_parens, a_within, a_behind_mark}
use Rattle.og_reread.proofs.Joins.{join_inner}

-- ---- writing

-- a part that is there
pub w_some : {A : Type 0} (f : Rule symbols (List A)) (t : List ℕ) (P : List A → Type 0) → Writes f t P → Writes (map or_empty (rules.opt f)) t P
w_some f t P p =
    w_map or_empty (rules.opt f) t (λ o. P (or_empty o)) P (λ o is. is)
    (w_left (map Some f) (give None) t (λ o. P (or_empty o)) (w_map Some f t P (λ o. P (or_empty o)) (λ a is. is) p))

-- none of a list with commas
pub w_none : {A B : Type 0} (f : Rule symbols A) (Is : B → A → Type 0) → Writes (rules.commas_or_none f) [] (AllZip Is [])
w_none f Is = w_right (rules.commas f) (give []) [] (AllZip Is []) (w_give [] (AllZip Is []) tt)

abbrev in_field : {A : Type 0} → Word → Rule symbols (List A) → Rule symbols (List A)
in_field k f = rules.within (rules.word k) (rules.behind (rules.mark marks.Colon) f) (rules.mark marks.Semicolon)

-- a field, also an empty one
pub w_field : {A : Type 0} (k : Word) (f : Rule symbols (List A)) (t : List ℕ) (P : List A → Type 0) → Writes f t P
    → Writes (field_or_none k f) (field k t) P
w_field k f t P p =
    w_some (in_field k f) (field k t) P
    (w_text (in_field k f) (c.word k ++ ((c.mark marks.Colon ++ t) ++ c.mark marks.Semicolon)) (field k t) P
    (join_inner (c.word k) (c.mark marks.Colon) t (c.mark marks.Semicolon))
    (w_within (rules.word k) (rules.behind (rules.mark marks.Colon) f) (rules.mark marks.Semicolon) (c.word k) (c.mark marks.Colon ++ t) (c.mark marks.Semicolon)
    (λ _. Unit {0}) P (λ _. Unit {0}) (w_word k)
    (w_behind (rules.mark marks.Colon) f (c.mark marks.Colon) t (λ _. Unit {0}) P (w_mark marks.Colon) p) (w_mark marks.Semicolon)))

module _ (m : Meaning symbols) where
  -- what is left out is empty, and so is its text
  pub a_or_empty : {A : Type 0} (f : Rule symbols (List A)) (t : List A → List ℕ) (S : List A → List A → Type 0) → t [] ≡ [] → S [] []
      → Again m f t S → Again m (rules.opt f) (λ o. t (or_empty o)) (λ o p. S (or_empty o) (or_empty p))
  a_or_empty f t S none same p =
      a_alt m (map Some f) (give None) (λ o. t (or_empty o)) (λ o p. S (or_empty o) (or_empty p))
      (a_map m Some f t S (λ o. t (or_empty o)) (λ o p. S (or_empty o) (or_empty p)) (λ a. refl) (λ a b s. s) p)
      (a_give m None (λ o. t (or_empty o)) (λ o p. S (or_empty o) (or_empty p)) none same)

  -- one or more in round brackets
  pub a_optional : {A : Type 0} (f : Rule symbols A) (t : A → List ℕ) (S : A → A → Type 0) → Again m f t S
      → Again m (rules.within (rules.mark marks.LeftParen) (rules.commas f) (rules.mark marks.RightParen)) (λ vs. c.optional (each t vs)) (AllZip S)
  a_optional f t S p ts vs real is =
      let right = is.1.4 in
      let made = right.1.3 in
      let some : vs ≡ made.0.0 ∷ made.0.1 = is.2 ∙ right.2 ∙ made.2 in
      w_text _ _ (c.optional (each t vs)) (AllZip S vs) (text vs made.0 some)
      (a_parens m (rules.commas f) (λ us. c.commas (each t us)) (AllZip S) (a_commas m f t S p) ts vs real is)
    where
      text : (vs : List _) (x : _ × List _) → vs ≡ x.0 ∷ x.1 → c.in_parens (c.commas (each t vs)) ≡ c.optional (each t vs)
      text vs x some = subst (λ l. c.in_parens (c.commas (each t l)) ≡ c.optional (each t l)) (sym some) refl

  -- a part behind a word and a colon, up to a semicolon
  pub a_worded : {A : Type 0} (k : Word) (f : Rule symbols A) (t : A → List ℕ) (S : A → A → Type 0) → Again m f t S
      → Again m (rules.within (rules.word k) (rules.behind (rules.mark marks.Colon) f) (rules.mark marks.Semicolon)) (λ v. field k (t v)) S
  a_worded k f t S p ts v real is =
      w_text _ _ (field k (t v)) (S v) (join_inner (c.word k) (c.mark marks.Colon) (t v) (c.mark marks.Semicolon))
      (a_within m (rules.word k) (rules.behind (rules.mark marks.Colon) f) (rules.mark marks.Semicolon) (c.word k) (λ u. c.mark marks.Colon ++ t u)
      (c.mark marks.Semicolon) Whatever S Whatever (a_word m k) (a_behind_mark m marks.Colon f t S p) (a_mark m marks.Semicolon) ts v real is)

  -- a field that is left out is written empty
  pub a_field : {A : Type 0} (k : Word) (f : Rule symbols (List A)) (t : List A → List ℕ) (S : List A → List A → Type 0)
      → Again m f t S → Writes f (t []) (S []) → Again m (field_or_none k f) (λ vs. field k (t vs)) S
  a_field k f t S p none ts v real (o, inl (a, is, some), made) =
      subst (λ b. Writes (field_or_none k f) (field k (t b)) (S b)) (sym (made ∙ ap or_empty some))
      (w_some (in_field k f) (field k (t a)) (S a) (a_worded k f t S p ts a real is))
  a_field k f t S p none ts v real (o, inr (empty, left_out), made) =
      subst (λ b. Writes (field_or_none k f) (field k (t b)) (S b)) (sym (made ∙ ap or_empty left_out)) (w_field k f (t []) (S []) none)
