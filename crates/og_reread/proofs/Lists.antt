-- Lists with something between each two, spelled again, and brackets round a part.
use Rattle.std.proofs.Common.{◌≡◌, ◌∙◌, ℕ, List, [], ◌∷◌, ◌++◌, refl, sym, ap, subst, append_assoc}
use Rattle.std.proofs.Common.{map as each}
use Rattle.std.specs.Prelude.{flat_map}
use Rattle.std.specs.List.{AllZip}
use Rattle.og_lex.specs.declared.token.Mark.{Mark}
use Rattle.og_lex.specs.declared.token.Mark.TheVariants as marks
use Rattle.og_lex.specs.declared.token.Word.{Word}
use Rattle.og_grammar.specs.declared.terminal.Terminal.{Terminal}
use Rattle.og_grammar.specs.declared.terminal.Terminal.TheVariants as terminals
use Rattle.og_grammar.specs.Rule.{Meaning, Rule, seq, star, give}
use Rattle.og_grammar.specs.Combinators as rules
use Rattle.og_language.specs.Symbols.{symbols}
use Rattle.og_canonical.specs.Tokens as c
use Rattle.og_reread.proofs.Again.{Writes, WritesEach, w_text, w_seq, w_map, w_star, Again, a_give, a_seq, a_alt, a_map, a_star, a_as}
use Rattle.og_reread.proofs.Tokens.{Whatever, w_mark, a_mark, a_word}

-- ---- writing

-- what stands between two parts
pub w_behind : {A B : Type 0} (f : Rule symbols A) (g : Rule symbols B) (t u : List ℕ) (P : A → Type 0) (Q : B → Type 0)
    → Writes f t P → Writes g u Q → Writes (rules.behind f g) (t ++ u) Q
w_behind f g t u P Q p q = w_map (λ v. v.1) (seq f g) (t ++ u) (λ v. P v.0 × Q v.1) Q (λ v is. is.1) (w_seq f g t u P Q p q)

pub w_before : {A B : Type 0} (f : Rule symbols A) (g : Rule symbols B) (t u : List ℕ) (P : A → Type 0) (Q : B → Type 0)
    → Writes f t P → Writes g u Q → Writes (rules.before f g) (t ++ u) P
w_before f g t u P Q p q = w_map (λ v. v.0) (seq f g) (t ++ u) (λ v. P v.0 × Q v.1) P (λ v is. is.0) (w_seq f g t u P Q p q)

pub w_within : {A B C : Type 0} (left : Rule symbols A) (f : Rule symbols B) (right : Rule symbols C) (l t r : List ℕ) (L : A → Type 0) (P : B → Type 0) (R : C → Type 0)
    → Writes left l L → Writes f t P → Writes right r R → Writes (rules.within left f right) (l ++ (t ++ r)) P
w_within left f right l t r L P R p q s = w_behind left (rules.before f right) l (t ++ r) L P p (w_before f right t r P R q s)

-- in round brackets
pub w_parens : {A : Type 0} (f : Rule symbols A) (t : List ℕ) (P : A → Type 0) → Writes f t P
    → Writes (rules.within (rules.mark marks.LeftParen) f (rules.mark marks.RightParen)) (c.in_parens t) P
w_parens f t P p =
    w_text (rules.within (rules.mark marks.LeftParen) f (rules.mark marks.RightParen))
    (c.mark marks.LeftParen ++ (t ++ c.mark marks.RightParen)) (c.in_parens t) P
    (sym (append_assoc (c.mark marks.LeftParen) t (c.mark marks.RightParen)))
    (w_within (rules.mark marks.LeftParen) f (rules.mark marks.RightParen) (c.mark marks.LeftParen) t (c.mark marks.RightParen)
    (λ _. Unit {0}) P (λ _. Unit {0}) (w_mark marks.LeftParen) p (w_mark marks.RightParen))

-- values with something between each two
pub w_separated : {A B : Type 0} (k : Terminal) (between : List ℕ) → Writes (rules.place_of k) between (λ _. Unit {0})
    → (f : Rule symbols A) (text : B → List ℕ) (Is : B → A → Type 0) (b : B) (bs : List B) → WritesEach f text Is (b ∷ bs)
    → Writes (rules.separated k f) (text b ++ flat_map (λ x. between ++ text x) bs) (AllZip Is (b ∷ bs))
w_separated k between sep f text Is b bs (p, each) =
    w_map (λ v. v.0 ∷ v.1) (seq f (star (rules.behind (rules.place_of k) f))) (text b ++ flat_map (λ x. between ++ text x) bs)
    (λ v. Is b v.0 × AllZip Is bs v.1) (AllZip Is (b ∷ bs)) (λ v is. is)
    (w_seq f (star (rules.behind (rules.place_of k) f)) (text b) (flat_map (λ x. between ++ text x) bs) (Is b) (AllZip Is bs) p
    (w_star (rules.behind (rules.place_of k) f) (λ x. between ++ text x) Is bs (all bs each)))
  where
    all : (xs : List _) → WritesEach f text Is xs → WritesEach (rules.behind (rules.place_of k) f) (λ x. between ++ text x) Is xs
    all [] e = tt
    all (x ∷ xs) (one, more) = (w_behind (rules.place_of k) f between (text x) (λ _. Unit {0}) (Is x) sep one, all xs more)

-- ---- again

module _ (m : Meaning symbols) where
  pub a_behind : {A B : Type 0} (f : Rule symbols A) (g : Rule symbols B) (t : List ℕ) (u : B → List ℕ) (S : A → A → Type 0) (R : B → B → Type 0)
      → Again m f (λ _. t) S → Again m g u R → Again m (rules.behind f g) (λ v. t ++ u v) R
  a_behind f g t u S R p q =
      a_map m (λ v. v.1) (seq f g) (λ v. t ++ u v.1) (λ v w. S v.0 w.0 × R v.1 w.1) (λ v. t ++ u v) R (λ a. refl) (λ a b s. s.1)
      (a_seq m f g (λ _. t) u S R p q)

  pub a_before : {A B : Type 0} (f : Rule symbols A) (g : Rule symbols B) (t : A → List ℕ) (u : List ℕ) (S : A → A → Type 0) (R : B → B → Type 0)
      → Again m f t S → Again m g (λ _. u) R → Again m (rules.before f g) (λ v. t v ++ u) S
  a_before f g t u S R p q =
      a_map m (λ v. v.0) (seq f g) (λ v. t v.0 ++ u) (λ v w. S v.0 w.0 × R v.1 w.1) (λ v. t v ++ u) S (λ a. refl) (λ a b s. s.0)
      (a_seq m f g t (λ _. u) S R p q)

  pub a_within : {A B C : Type 0} (left : Rule symbols A) (f : Rule symbols B) (right : Rule symbols C) (l : List ℕ) (t : B → List ℕ) (r : List ℕ) (L : A → A → Type 0) (S : B → B → Type 0) (R : C → C → Type 0)
      → Again m left (λ _. l) L → Again m f t S → Again m right (λ _. r) R → Again m (rules.within left f right) (λ v. l ++ (t v ++ r)) S
  a_within left f right l t r L S R p q s =
      a_behind left (rules.before f right) l (λ v. t v ++ r) L S p (a_before f right t r S R q s)

  -- a part between two marks
  pub a_marked : {A : Type 0} (left right : Mark) (f : Rule symbols A) (t : A → List ℕ) (S : A → A → Type 0) → Again m f t S
      → Again m (rules.within (rules.mark left) f (rules.mark right)) (λ v. c.mark left ++ (t v ++ c.mark right)) S
  a_marked left right f t S p =
      a_within (rules.mark left) f (rules.mark right) (c.mark left) t (c.mark right) Whatever S Whatever (a_mark m left) p (a_mark m right)

  -- a part behind a mark, before one, and behind a word
  pub a_behind_mark : {A : Type 0} (k : Mark) (f : Rule symbols A) (t : A → List ℕ) (S : A → A → Type 0) → Again m f t S
      → Again m (rules.behind (rules.mark k) f) (λ v. c.mark k ++ t v) S
  a_behind_mark k f t S p = a_behind (rules.mark k) f (c.mark k) t Whatever S (a_mark m k) p

  pub a_before_mark : {A : Type 0} (k : Mark) (f : Rule symbols A) (t : A → List ℕ) (S : A → A → Type 0) → Again m f t S
      → Again m (rules.before f (rules.mark k)) (λ v. t v ++ c.mark k) S
  a_before_mark k f t S p = a_before f (rules.mark k) t (c.mark k) S Whatever p (a_mark m k)

  pub a_behind_word : {A : Type 0} (k : Word) (f : Rule symbols A) (t : A → List ℕ) (S : A → A → Type 0) → Again m f t S
      → Again m (rules.behind (rules.word k) f) (λ v. c.word k ++ t v) S
  a_behind_word k f t S p = a_behind (rules.word k) f (c.word k) t Whatever S (a_word m k) p

  -- the parts of a joined text
  pub joined_parts : {A : Type 0} (between : List ℕ) (t : A → List ℕ) (vs : List A)
      → flat_map (λ v. between ++ t v) vs ≡ flat_map (λ u. between ++ u) (each t vs)
  joined_parts between t [] = refl
  joined_parts between t (v ∷ vs) = ap (λ l. (between ++ t v) ++ l) (joined_parts between t vs)

  pub a_separated : {A : Type 0} (k : Terminal) (between : List ℕ) → Again m (rules.place_of k) (λ _. between) Whatever
      → (f : Rule symbols A) (t : A → List ℕ) (S : A → A → Type 0) → Again m f t S
      → Again m (rules.separated k f) (λ vs. c.joined between (each t vs)) (AllZip S)
  a_separated k between sep f t S p =
      a_map m (λ v. v.0 ∷ v.1) (seq f (star (rules.behind (rules.place_of k) f)))
      (λ v. t v.0 ++ flat_map (λ x. between ++ t x) v.1) (λ v w. S v.0 w.0 × AllZip S v.1 w.1)
      (λ vs. c.joined between (each t vs)) (AllZip S)
      (λ v. ap (λ l. t v.0 ++ l) (joined_parts between t v.1)) (λ v w s. s)
      (a_seq m f (star (rules.behind (rules.place_of k) f)) t (flat_map (λ x. between ++ t x)) S (AllZip S) p
      (a_star m (rules.behind (rules.place_of k) f) (λ x. between ++ t x) S (a_behind (rules.place_of k) f between t Whatever S sep p)))

  pub a_commas : {A : Type 0} (f : Rule symbols A) (t : A → List ℕ) (S : A → A → Type 0) → Again m f t S
      → Again m (rules.commas f) (λ vs. c.commas (each t vs)) (AllZip S)
  a_commas f t S p = a_separated (terminals.Mark marks.Comma) (c.mark marks.Comma) (a_mark m marks.Comma) f t S p

  pub a_commas_or_none : {A : Type 0} (f : Rule symbols A) (t : A → List ℕ) (S : A → A → Type 0) → Again m f t S
      → Again m (rules.commas_or_none f) (λ vs. c.commas (each t vs)) (AllZip S)
  a_commas_or_none f t S p =
      a_alt m (rules.commas f) (give []) (λ vs. c.commas (each t vs)) (AllZip S) (a_commas f t S p)
      (a_give m [] (λ vs. c.commas (each t vs)) (AllZip S) refl tt)

  comma_text : {A : Type 0} (t : A → List ℕ) (first : A) (rest : List A)
      → c.mark marks.Comma ++ c.commas (each t (first ∷ rest)) ≡ flat_map (λ v. c.mark marks.Comma ++ t v) (first ∷ rest)
  comma_text t first rest =
      sym (append_assoc (c.mark marks.Comma) (t first) (flat_map (λ u. c.mark marks.Comma ++ u) (each t rest)))
      ∙ ap (λ l. (c.mark marks.Comma ++ t first) ++ l) (sym (joined_parts (c.mark marks.Comma) t rest))

  some_text : {A : Type 0} (t : A → List ℕ) (us ws : List A) → ws ≡ us → (x : A × List A) → us ≡ x.0 ∷ x.1
      → c.mark marks.Comma ++ c.commas (each t ws) ≡ flat_map (λ v. c.mark marks.Comma ++ t v) ws
  some_text t us ws same x made =
      subst (λ l. c.mark marks.Comma ++ c.commas (each t l) ≡ flat_map (λ v. c.mark marks.Comma ++ t v) l) (sym (same ∙ made))
      (comma_text t x.0 x.1)

  more_commas : {A : Type 0} (f : Rule symbols A) (t : A → List ℕ) (S : A → A → Type 0) → Again m f t S
      → Again m (rules.behind (rules.mark marks.Comma) (rules.commas f)) (flat_map (λ v. c.mark marks.Comma ++ t v)) (AllZip S)
  more_commas f t S p ts vs real is =
      let written = a_behind_mark marks.Comma (rules.commas f) (λ us. c.commas (each t us)) (AllZip S) (a_commas f t S p) ts vs real is in
      w_text (rules.behind (rules.mark marks.Comma) (rules.commas f)) (c.mark marks.Comma ++ c.commas (each t vs))
      (flat_map (λ v. c.mark marks.Comma ++ t v) vs) (AllZip S vs) (some_text t is.0.1 vs is.2 is.1.4.0 is.1.4.2) written

  pub a_two_or_more : {A : Type 0} (f : Rule symbols A) (t : A → List ℕ) (S : A → A → Type 0) → Again m f t S
      → Again m (rules.two_or_more f) (λ vs. c.commas (each t vs)) (AllZip S)
  a_two_or_more f t S p =
      a_map m (λ v. v.0 ∷ v.1) (seq f (rules.behind (rules.mark marks.Comma) (rules.commas f)))
      (λ v. t v.0 ++ flat_map (λ u. c.mark marks.Comma ++ t u) v.1) (λ v w. S v.0 w.0 × AllZip S v.1 w.1)
      (λ vs. c.commas (each t vs)) (AllZip S) (λ v. ap (λ l. t v.0 ++ l) (joined_parts (c.mark marks.Comma) t v.1)) (λ v w s. s)
      (a_seq m f (rules.behind (rules.mark marks.Comma) (rules.commas f)) t (flat_map (λ u. c.mark marks.Comma ++ t u)) S (AllZip S) p
      (more_commas f t S p))

  -- in round, square and curly brackets
  pub a_parens : {A : Type 0} (f : Rule symbols A) (t : A → List ℕ) (S : A → A → Type 0) → Again m f t S
      → Again m (rules.within (rules.mark marks.LeftParen) f (rules.mark marks.RightParen)) (λ v. c.in_parens (t v)) S
  a_parens f t S p ts v real is =
      w_text _ _ (c.in_parens (t v)) (S v) (sym (append_assoc (c.mark marks.LeftParen) (t v) (c.mark marks.RightParen)))
      (a_marked marks.LeftParen marks.RightParen f t S p ts v real is)

  pub a_brackets : {A : Type 0} (f : Rule symbols A) (t : A → List ℕ) (S : A → A → Type 0) → Again m f t S
      → Again m (rules.within (rules.mark marks.LeftBracket) f (rules.mark marks.RightBracket)) (λ v. c.in_brackets (t v)) S
  a_brackets f t S p ts v real is =
      w_text _ _ (c.in_brackets (t v)) (S v) (sym (append_assoc (c.mark marks.LeftBracket) (t v) (c.mark marks.RightBracket)))
      (a_marked marks.LeftBracket marks.RightBracket f t S p ts v real is)

  pub a_braces : {A : Type 0} (f : Rule symbols A) (t : A → List ℕ) (S : A → A → Type 0) → Again m f t S
      → Again m (rules.within (rules.mark marks.LeftBrace) f (rules.mark marks.RightBrace)) (λ v. c.in_braces (t v)) S
  a_braces f t S p ts v real is =
      w_text _ _ (c.in_braces (t v)) (S v) (sym (append_assoc (c.mark marks.LeftBrace) (t v) (c.mark marks.RightBrace)))
      (a_marked marks.LeftBrace marks.RightBrace f t S p ts v real is)

  -- in round brackets, with the place of the first
  pub a_placed_parens : {A : Type 0} (f : Rule symbols A) (t : A → List ℕ) (S : A → A → Type 0) → Again m f t S
      → Again m (seq (rules.mark marks.LeftParen) (rules.before f (rules.mark marks.RightParen))) (λ v. c.in_parens (t v.1)) (λ v w. S v.1 w.1)
  a_placed_parens f t S p =
      a_as m (seq (rules.mark marks.LeftParen) (rules.before f (rules.mark marks.RightParen)))
      (λ v. c.mark marks.LeftParen ++ (t v.1 ++ c.mark marks.RightParen)) (λ v. c.in_parens (t v.1))
      (λ v w. Unit {0} × S v.1 w.1) (λ v w. S v.1 w.1)
      (λ v. sym (append_assoc (c.mark marks.LeftParen) (t v.1) (c.mark marks.RightParen))) (λ v w s. s.1)
      (a_seq m (rules.mark marks.LeftParen) (rules.before f (rules.mark marks.RightParen)) (λ _. c.mark marks.LeftParen)
      (λ v. t v ++ c.mark marks.RightParen) Whatever S (a_mark m marks.LeftParen) (a_before_mark marks.RightParen f t S p))
