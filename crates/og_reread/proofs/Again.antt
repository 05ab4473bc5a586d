-- Rules whose values are spelled again by their canonical texts.
use Rattle.std.proofs.Common.{◌≡◌, ◌∙◌, ℕ, ◌+◌, List, [], ◌∷◌, ◌++◌, length, inl, inr, refl, sym, subst}
use Rattle.std.specs.Prelude.{flat_map}
use Rattle.std.specs.List.{AllByRecursion, AllZip}
use Rattle.og_lex.specs.Written.{Written, IsWritten, text_of}
use Rattle.og_grammar.specs.Lexeme.{Lexeme}
use Rattle.og_grammar.specs.Rule.{Meaning, Rule, give, seq, alt, star, map, at, hole, spells, EachInTurn, IsPlaceOf}
use Rattle.og_grammar.specs.Levels.{meaning}
use Rattle.og_language.specs.Symbols.{Symbol, TreeOf, symbols}
use Rattle.og_language.specs.Language.{language, rule_of}
use Rattle.og_language.specs.laws.Fine.{language_fine}
use Rattle.og_grammar.proofs.EveryDepth.{spells_as_rules}
use Rattle.og_reread.specs.Lexemes.{IsLexeme}
use Rattle.og_reread.proofs.Rows.{lexemes, split_all, join_all, text_of-append, lexemes-append}

-- ---- writing

-- The text is a row of tokens that the rule spells, wherever they stand, for a value that is such.
pub record Writes {A : Type 0} (rule : Rule symbols A) (text : List ℕ) (Is : A → Type 0) : Type 0 where
  pub row : List Written
  pub good : AllByRecursion IsWritten row
  pub is_text : text ≡ text_of row
  pub spelled : (place : ℕ) → (a : A) × spells (meaning language) rule (lexemes place row) a × Is a

pub w_text : {A : Type 0} (rule : Rule symbols A) (text other : List ℕ) (Is : A → Type 0) → text ≡ other → Writes rule text Is → Writes rule other Is
w_text rule text other Is same w = subst (λ t. Writes rule t Is) same w

pub w_is : {A : Type 0} (rule : Rule symbols A) (text : List ℕ) (Is Was : A → Type 0) → ((a : A) → Was a → Is a) → Writes rule text Was → Writes rule text Is
w_is rule text Is Was more w = record {
  row = w.row;
  good = w.good;
  is_text = w.is_text;
  spelled = λ place. let s = w.spelled place in (s.0, s.1, more s.0 s.2);
}

pub w_give : {A : Type 0} (a : A) (Is : A → Type 0) → Is a → Writes (give a) [] Is
w_give a Is is = record { row = []; good = tt; is_text = refl; spelled = λ place. (a, (refl, refl), is) }

pub w_seq : {A B : Type 0} (f : Rule symbols A) (g : Rule symbols B) (t u : List ℕ) (P : A → Type 0) (Q : B → Type 0)
    → Writes f t P → Writes g u Q → Writes (seq f g) (t ++ u) (λ v. P v.0 × Q v.1)
w_seq f g t u P Q p q = record {
  row = p.row ++ q.row;
  good = join_all IsWritten p.row q.row p.good q.good;
  is_text = (λ i. p.is_text i ++ q.is_text i) ∙ sym (text_of-append p.row q.row);
  spelled = λ place.
      let a = p.spelled place in
      let b = q.spelled (place + length (text_of p.row)) in (
        (a.0, b.0),
        (lexemes place p.row, lexemes (place + length (text_of p.row)) q.row, lexemes-append place p.row q.row, a.1, b.1),
        (a.2, b.2),
      );
}

pub w_map : {A B : Type 0} (h : A → B) (f : Rule symbols A) (t : List ℕ) (P : A → Type 0) (Q : B → Type 0) → ((a : A) → P a → Q (h a))
    → Writes f t P → Writes (map h f) t Q
w_map h f t P Q made p = record {
  row = p.row;
  good = p.good;
  is_text = p.is_text;
  spelled = λ place. let a = p.spelled place in (h a.0, (a.0, a.1, refl), made a.0 a.2);
}

pub w_left : {A : Type 0} (f g : Rule symbols A) (t : List ℕ) (P : A → Type 0) → Writes f t P → Writes (alt f g) t P
w_left f g t P p = record {
  row = p.row;
  good = p.good;
  is_text = p.is_text;
  spelled = λ place. let a = p.spelled place in (a.0, inl a.1, a.2);
}

pub w_right : {A : Type 0} (f g : Rule symbols A) (t : List ℕ) (P : A → Type 0) → Writes g t P → Writes (alt f g) t P
w_right f g t P p = record {
  row = p.row;
  good = p.good;
  is_text = p.is_text;
  spelled = λ place. let a = p.spelled place in (a.0, inr a.1, a.2);
}

place_of_row : (place : ℕ) (row : List Written) → IsPlaceOf (lexemes place row) place
place_of_row place [] = tt
place_of_row place (w ∷ ws) = refl

pub w_at : {A : Type 0} (f : Rule symbols A) (t : List ℕ) (P : A → Type 0) → Writes f t P → Writes (at f) t (λ v. P v.1)
w_at f t P p = record {
  row = p.row;
  good = p.good;
  is_text = p.is_text;
  spelled = λ place. let a = p.spelled place in ((place, a.0), (place_of_row place p.row, a.1), a.2);
}

pub w_hole : (n : Symbol) (t : List ℕ) (P : TreeOf n → Type 0) → Writes (rule_of n) t P → Writes (hole n) t P
w_hole n t P p = record {
  row = p.row;
  good = p.good;
  is_text = p.is_text;
  spelled = λ place.
      let a = p.spelled place in
      (a.0, (spells_as_rules language language_fine n (lexemes place p.row) a.0).1 a.1, a.2);
}

-- how often a rule is written, each time for a value that is such of one of the list
abbrev pub WritesEach : {A B : Type 0} → Rule symbols A → (B → List ℕ) → (B → A → Type 0) → List B → Type 0
WritesEach f text Is [] = Unit {0}
WritesEach f text Is (b ∷ bs) = Writes f (text b) (Is b) × WritesEach f text Is bs

pub w_star : {A B : Type 0} (f : Rule symbols A) (text : B → List ℕ) (Is : B → A → Type 0) (bs : List B) → WritesEach f text Is bs
    → Writes (star f) (flat_map text bs) (AllZip Is bs)
w_star f text Is [] each = record { row = []; good = tt; is_text = refl; spelled = λ place. ([], refl, tt) }
w_star f text Is (b ∷ bs) (p, each) =
    let q = w_star f text Is bs each in
    record {
      row = p.row ++ q.row;
      good = join_all IsWritten p.row q.row p.good q.good;
      is_text = (λ i. p.is_text i ++ q.is_text i) ∙ sym (text_of-append p.row q.row);
      spelled = λ place.
          let a = p.spelled place in
          let more = q.spelled (place + length (text_of p.row)) in (
            a.0 ∷ more.0,
            (lexemes place p.row, lexemes (place + length (text_of p.row)) q.row, lexemes-append place p.row q.row, a.1, more.1),
            (a.2, more.2),
          );
    }

-- ---- what is spelled is written again, and then spelled for the same

-- What any tokens spell by the rule is spelled again by its text, for a value that is the same.
abbrev pub Again : {A : Type 0} → Meaning symbols → Rule symbols A → (A → List ℕ) → (A → A → Type 0) → Type 0
Again {A} m rule text Same =
    (ts : List Lexeme) (v : A) → AllByRecursion IsLexeme ts → spells m rule ts v → Writes rule (text v) (Same v)

module _ (m : Meaning symbols) where
  pub a_give : {A : Type 0} (a : A) (text : A → List ℕ) (Same : A → A → Type 0) → text a ≡ [] → Same a a → Again m (give a) text Same
  a_give a text Same none same ts v real (empty, is) =
      subst (λ b. Writes (give a) (text b) (Same b)) (sym is)
      (w_text (give a) [] (text a) (Same a) (sym none) (w_give a (Same a) same))

  pub a_seq : {A B : Type 0} (f : Rule symbols A) (g : Rule symbols B) (t : A → List ℕ) (u : B → List ℕ) (S : A → A → Type 0) (R : B → B → Type 0)
      → Again m f t S → Again m g u R → Again m (seq f g) (λ v. t v.0 ++ u v.1) (λ v w. S v.0 w.0 × R v.1 w.1)
  a_seq f g t u S R p q ts v real (xs, ys, cut, a, b) =
      let parts = split_all IsLexeme xs ys (subst (AllByRecursion IsLexeme) cut real) in
      w_seq f g (t v.0) (u v.1) (S v.0) (R v.1) (p xs v.0 parts.0 a) (q ys v.1 parts.1 b)

  pub a_alt : {A : Type 0} (f g : Rule symbols A) (t : A → List ℕ) (S : A → A → Type 0) → Again m f t S → Again m g t S → Again m (alt f g) t S
  a_alt f g t S p q ts v real (inl a) = w_left f g (t v) (S v) (p ts v real a)
  a_alt f g t S p q ts v real (inr b) = w_right f g (t v) (S v) (q ts v real b)

  pub a_map : {A B : Type 0} (h : A → B) (f : Rule symbols A) (t : A → List ℕ) (S : A → A → Type 0) (u : B → List ℕ) (R : B → B → Type 0)
      → ((a : A) → t a ≡ u (h a)) → ((a b : A) → S a b → R (h a) (h b)) → Again m f t S → Again m (map h f) u R
  a_map h f t S u R text same p ts v real (a, is, made) =
      subst (λ b. Writes (map h f) (u b) (R b)) (sym made)
      (w_map h f (u (h a)) (S a) (R (h a)) (same a) (w_text f (t a) (u (h a)) (S a) (text a) (p ts a real is)))

  pub a_at : {A : Type 0} (f : Rule symbols A) (t : A → List ℕ) (S : A → A → Type 0) → Again m f t S
      → Again m (at f) (λ v. t v.1) (λ v w. S v.1 w.1)
  a_at f t S p ts v real (place, is) = w_at f (t v.1) (S v.1) (p ts v.1 real is)

  each_again : {A : Type 0} (f : Rule symbols A) (t : A → List ℕ) (S : A → A → Type 0) → Again m f t S → (vs : List A) (ts : List Lexeme)
      → AllByRecursion IsLexeme ts → EachInTurn (spells m f) ts vs → WritesEach f t S vs
  each_again f t S p [] ts real is = tt
  each_again f t S p (v ∷ vs) ts real (xs, ys, cut, a, more) =
      let parts = split_all IsLexeme xs ys (subst (AllByRecursion IsLexeme) cut real) in
      (p xs v parts.0 a, each_again f t S p vs ys parts.1 more)

  pub a_star : {A : Type 0} (f : Rule symbols A) (t : A → List ℕ) (S : A → A → Type 0) → Again m f t S
      → Again m (star f) (flat_map t) (AllZip S)
  a_star f t S p ts vs real is = w_star f t S vs (each_again f t S p vs ts real is)

  -- the same rule, with a text that is equal and values that are the same in another way
  pub a_as : {A : Type 0} (f : Rule symbols A) (t u : A → List ℕ) (S R : A → A → Type 0) → ((a : A) → t a ≡ u a) → ((a b : A) → S a b → R a b)
      → Again m f t S → Again m f u R
  a_as f t u S R text same p ts v real is =
      w_text f (t v) (u v) (R v) (text v) (w_is f (t v) (R v) (S v) (same v) (p ts v real is))
