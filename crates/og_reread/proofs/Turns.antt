-- What holds of every value that tokens spell by a rule.
use Rattle.std.proofs.Common.{List, [], ◌∷◌, None, Some, inl, inr, sym, subst}
use Rattle.std.specs.Prelude.{IfSome}
use Rattle.std.specs.List.{AllByRecursion}
use Rattle.og_grammar.specs.Lexeme.{Lexeme}
use Rattle.og_grammar.specs.declared.terminal.Terminal.{Terminal}
use Rattle.og_grammar.specs.Rule.{Meaning, Rule, seq, alt, star, map, at, give, spells, EachInTurn}
use Rattle.og_grammar.specs.Combinators as rules
use Rattle.og_language.specs.Symbols.{symbols}
use Rattle.og_reread.specs.Lexemes.{IsLexeme}
use Rattle.og_reread.proofs.Rows.{split_all}

-- the first of a list that isn't empty, and the others
abbrev pub IsSeveral : {A : Type 0} → (A → Type 0) → List A → Type 0
IsSeveral P [] = ⊥
IsSeveral P (v ∷ vs) = P v × AllByRecursion P vs

-- Whatever real tokens spell by the rule is such.
pub record Turns {A : Type 0} (m : Meaning symbols) (rule : Rule symbols A) (Is : A → Type 0) : Type 0 where
  pub such : (ts : List Lexeme) (v : A) → AllByRecursion IsLexeme ts → spells m rule ts v → Is v

module _ (m : Meaning symbols) where
  pub t_any : {A : Type 0} (f : Rule symbols A) → Turns m f (λ _. Unit {0})
  t_any f = record { such = λ ts v real is. tt }

  pub t_map : {A B : Type 0} (h : A → B) (f : Rule symbols A) (P : A → Type 0) (Q : B → Type 0) → ((a : A) → P a → Q (h a))
      → Turns m f P → Turns m (map h f) Q
  t_map h f P Q made p = record {
    such = λ ts v real is. subst Q (sym is.2) (made is.0 (p.such ts is.0 real is.1));
  }

  -- of what is made whatever the parts are
  pub t_made : {A B : Type 0} (h : A → B) (f : Rule symbols A) (Q : B → Type 0) → ((a : A) → Q (h a)) → Turns m (map h f) Q
  t_made h f Q made = t_map h f (λ _. Unit {0}) Q (λ a is. made a) (t_any f)

  pub t_seq : {A B : Type 0} (f : Rule symbols A) (g : Rule symbols B) (P : A → Type 0) (Q : B → Type 0)
      → Turns m f P → Turns m g Q → Turns m (seq f g) (λ v. P v.0 × Q v.1)
  t_seq f g P Q p q = record {
    such = λ ts v real is.
        let parts = split_all IsLexeme is.0 is.1 (subst (AllByRecursion IsLexeme) is.2 real) in
        (p.such is.0 v.0 parts.0 is.3, q.such is.1 v.1 parts.1 is.4);
  }

  either : {A : Type 0} (f g : Rule symbols A) (P : A → Type 0) → Turns m f P → Turns m g P → (ts : List Lexeme) (v : A)
      → AllByRecursion IsLexeme ts → spells m (alt f g) ts v → P v
  either f g P p q ts v real (inl a) = p.such ts v real a
  either f g P p q ts v real (inr b) = q.such ts v real b

  pub t_alt : {A : Type 0} (f g : Rule symbols A) (P : A → Type 0) → Turns m f P → Turns m g P → Turns m (alt f g) P
  t_alt f g P p q = record { such = either f g P p q }

  each_turns : {A : Type 0} (f : Rule symbols A) (P : A → Type 0) → Turns m f P → (vs : List A) (ts : List Lexeme)
      → AllByRecursion IsLexeme ts → EachInTurn (spells m f) ts vs → AllByRecursion P vs
  each_turns f P p [] ts real is = tt
  each_turns f P p (v ∷ vs) ts real (xs, ys, cut, a, more) =
      let parts = split_all IsLexeme xs ys (subst (AllByRecursion IsLexeme) cut real) in
      (p.such xs v parts.0 a, each_turns f P p vs ys parts.1 more)

  pub t_star : {A : Type 0} (f : Rule symbols A) (P : A → Type 0) → Turns m f P → Turns m (star f) (AllByRecursion P)
  t_star f P p = record { such = λ ts vs real is. each_turns f P p vs ts real is }

  pub t_behind : {A B : Type 0} (f : Rule symbols A) (g : Rule symbols B) (P : B → Type 0) → Turns m g P → Turns m (rules.behind f g) P
  t_behind f g P p = t_map (λ v. v.1) (seq f g) (λ v. (Unit {0}) × P v.1) P (λ v is. is.1) (t_seq f g (λ _. Unit {0}) P (t_any f) p)

  pub t_before : {A B : Type 0} (f : Rule symbols A) (g : Rule symbols B) (P : A → Type 0) → Turns m f P → Turns m (rules.before f g) P
  t_before f g P p = t_map (λ v. v.0) (seq f g) (λ v. P v.0 × (Unit {0})) P (λ v is. is.0) (t_seq f g P (λ _. Unit {0}) p (t_any g))

  pub t_within : {A B C : Type 0} (left : Rule symbols A) (f : Rule symbols B) (right : Rule symbols C) (P : B → Type 0) → Turns m f P
      → Turns m (rules.within left f right) P
  t_within left f right P p = t_behind left (rules.before f right) P (t_before f right P p)

  -- one or more, with something between each two
  pub t_separated : {A : Type 0} (k : Terminal) (f : Rule symbols A) (P : A → Type 0) → Turns m f P → Turns m (rules.separated k f) (IsSeveral P)
  t_separated k f P p =
      t_map (λ v. v.0 ∷ v.1) (seq f (star (rules.behind (rules.place_of k) f))) (λ v. P v.0 × AllByRecursion P v.1) (IsSeveral P) (λ v is. is)
      (t_seq f (star (rules.behind (rules.place_of k) f)) P (AllByRecursion P) p
      (t_star (rules.behind (rules.place_of k) f) P (t_behind (rules.place_of k) f P p)))

  -- less of each
  pub t_weaker : {A : Type 0} (f : Rule symbols A) (P Q : A → Type 0) → ((a : A) → P a → Q a) → Turns m f P → Turns m f Q
  t_weaker f P Q less p = record { such = λ ts v real is. less v (p.such ts v real is) }

  pub t_at : {A : Type 0} (f : Rule symbols A) (P : A → Type 0) → Turns m f P → Turns m (at f) (λ v. P v.1)
  t_at f P p = record { such = λ ts v real is. p.such ts v.1 real is.1 }

  pub t_opt : {A : Type 0} (f : Rule symbols A) (P : A → Type 0) → Turns m f P → Turns m (rules.opt f) (λ o. IfSome o P)
  t_opt f P p =
      t_alt (map Some f) (give None) (λ o. IfSome o P) (t_map Some f P (λ o. IfSome o P) (λ a is. is) p)
      (record { such = λ ts v real is. subst (λ o. IfSome o P) (sym is.1) tt })
