-- Games written at each level: at their own without brackets, and from it at any.
use Rattle.std.proofs.Common.{◌≡◌, ◌∙◌, ℕ, zero, suc, ◌+◌, ◌≤◌, Bool, true, false, List, [], ◌∷◌, ◌++◌, length, refl, sym, ap, subst, arith, append_assoc}
use Rattle.std.specs.Prelude.{nat_lt, if◌then◌else◌}
use Rattle.std.specs.List.{AllByRecursion, AllZip}
use Rattle.std.proofs.lemmas.Bool.{ltb-false}
use Rattle.std.proofs.lemmas.List.{append-nil}
use Rattle.og_lex.specs.declared.token.Mark.TheVariants as marks
use Rattle.og_lex.specs.Written.{IsWritten, text_of}
use Rattle.og_grammar.specs.Lexeme.{Lexeme}
use Rattle.og_grammar.specs.Rule.{Rule, seq, star, map, spells, EachInTurn}
use Rattle.og_grammar.specs.Combinators as rules
use Rattle.og_grammar.specs.Levels.{meaning}
use Rattle.og_language.specs.Symbols.{symbols, game}
use Rattle.og_language.specs.Language.{language}
use Rattle.og_language.specs.Trees.{seq_onto, par_onto}
use Rattle.og_language.specs.Grammar as g
use Rattle.og_syntax.specs.declared.games.GameTree.{GameTree}
use Rattle.og_syntax.specs.declared.games.GameTree.TheVariants as games
use Rattle.og_canonical.specs.Tokens as c
use Rattle.og_canonical.specs.Expressions.{Shown, at_least}
use Rattle.og_canonical.specs.Games.{shown_game}
use Rattle.og_canonical.proofs.GameForms.{shown_seq, shown_par}
use Rattle.og_reread.proofs.Rows.{lexemes, join_all, text_of-append, lexemes-append}
use Rattle.og_reread.proofs.Again.{Writes, w_text, w_seq, w_map, w_left, w_right, w_hole, w_star}
use Rattle.og_reread.proofs.Tokens.{w_mark}
use Rattle.og_reread.proofs.Lists.{w_behind, w_parens}
use Rattle.og_reread.proofs.Sames.{SameGame}
use Rattle.og_reread.proofs.GameForms.{game_seq, game_par}

-- the rule of each level: with `>>>`, with `&&&`, and with neither
abbrev pub rule_at : Bool → ℕ → Rule symbols GameTree
rule_at b zero = g.game_rule b
rule_at b (suc zero) = g.game_rule b
rule_at b (suc (suc zero)) = g.beside b
rule_at b (suc (suc (suc n))) = g.atom b

-- A game is written at its own level, without brackets round it.
abbrev pub Whole : Bool → GameTree → Type 0
Whole b x = Writes (rule_at b (shown_game x).level) (shown_game x).text (SameGame x)

-- ---- a first part with others behind it

-- with no other
w_alone : {A : Type 0} (h : A → List A → A) → ((a : A) → h a [] ≡ a) → (f r : Rule symbols A) (t : List ℕ) (P : A → Type 0)
    → Writes f t P → Writes (map (λ v. h v.0 v.1) (seq f (star r))) t P
w_alone {A} h alone f r t P p =
    w_text (map (λ v. h v.0 v.1) (seq f (star r))) (t ++ []) t P (append-nil t)
    (w_map (λ v. h v.0 v.1) (seq f (star r)) (t ++ []) (λ v. P v.0 × AllZip none [] v.1) P (λ v is. made v.0 v.1 is.0 is.1)
    (w_seq f (star r) t [] P (AllZip none []) p (w_star r (λ _. []) none [] tt)))
  where
    none : A → A → Type 0
    none a b = Unit {0}

    made : (a : A) (rest : List A) → P a → AllZip none [] rest → P (h a rest)
    made a [] is others = subst P (sym (alone a)) is
    made a (b ∷ rest) is others = absurd others

each_push : {A : Type 0} (f : List Lexeme → A → Type 0) (vs : List A) (ts us : List Lexeme) (a : A) → EachInTurn f ts vs → f us a
    → EachInTurn f (ts ++ us) (vs ++ (a ∷ []))
each_push f [] ts us a is more = (us, [], (λ i. is i ++ us) ∙ sym (append-nil us), more, refl)
each_push f (v ∷ vs) ts us a (xs, ys, cut, one, others) more =
    (xs, ys ++ us, (λ i. cut i ++ us) ∙ append_assoc xs ys us, one, each_push f vs ys us a others more)

-- with one more
w_onto : {A : Type 0} (h : A → List A → A) (both : A → A → A) → ((a : A) (rest : List A) (b : A) → h a (rest ++ (b ∷ [])) ≡ both (h a rest) b)
    → (f r : Rule symbols A) (t u : List ℕ) (P Q R : A → Type 0) → ((a b : A) → P a → Q b → R (both a b))
    → Writes (map (λ v. h v.0 v.1) (seq f (star r))) t P → Writes r u Q → Writes (map (λ v. h v.0 v.1) (seq f (star r))) (t ++ u) R
w_onto h both onto f r t u P Q R made p q = record {
  row = p.row ++ q.row;
  good = join_all IsWritten p.row q.row p.good q.good;
  is_text = (λ i. p.is_text i ++ q.is_text i) ∙ sym (text_of-append p.row q.row);
  spelled = λ place.
      let a = p.spelled place in
      let b = q.spelled (place + length (text_of p.row)) in
      let parts = a.1.1 in
      let more = lexemes (place + length (text_of p.row)) q.row in (
        both a.0 b.0,
        (
          (a.1.0.0, a.1.0.1 ++ (b.0 ∷ [])),
          (
            parts.0,
            parts.1 ++ more,
            lexemes-append place p.row q.row ∙ (λ i. parts.2 i ++ more) ∙ append_assoc parts.0 parts.1 more,
            parts.3,
            each_push (spells (meaning language) r) a.1.0.1 parts.1 more b.0 parts.4 b.1,
          ),
          ap (λ x. both x b.0) a.1.2 ∙ sym (onto a.1.0.0 a.1.0.1 b.0),
        ),
        made a.0 b.0 a.2 b.2,
      );
}

seq_more : (first : GameTree) (rest : List GameTree) (x : GameTree) → seq_onto first (rest ++ (x ∷ [])) ≡ games.Seq (seq_onto first rest) x
seq_more first [] x = refl
seq_more first (y ∷ rest) x = seq_more (games.Seq first y) rest x

par_more : (first : GameTree) (rest : List GameTree) (x : GameTree) → par_onto first (rest ++ (x ∷ [])) ≡ games.Par (par_onto first rest) x
par_more first [] x = refl
par_more first (y ∷ rest) x = par_more (games.Par first y) rest x

-- ---- from level to level

module _ (b : Bool) (t : List ℕ) (P : GameTree → Type 0) where
  pub atom_beside : Writes (g.atom b) t P → Writes (g.beside b) t P
  unfolding g.beside g.others_beside
  atom_beside p = w_alone par_onto (λ a. refl) (g.atom b) (g.next_beside b) t P p

  pub beside_game : Writes (g.beside b) t P → Writes (g.game_rule b) t P
  unfolding g.game_rule g.others_then
  beside_game p = w_alone seq_onto (λ a. refl) (g.beside b) (g.next_then b) t P p

  as_game : (level : ℕ) → Writes (rule_at b level) t P → Writes (g.game_rule b) t P
  as_game zero p = p
  as_game (suc zero) p = p
  as_game (suc (suc zero)) p = beside_game p
  as_game (suc (suc (suc n))) p = beside_game (atom_beside p)

  from_atom : (level : ℕ) → Writes (g.atom b) t P → Writes (rule_at b level) t P
  from_atom zero p = beside_game (atom_beside p)
  from_atom (suc zero) p = beside_game (atom_beside p)
  from_atom (suc (suc zero)) p = atom_beside p
  from_atom (suc (suc (suc n))) p = p

  climb : (level n : ℕ) → n ≤ level → Writes (rule_at b level) t P → Writes (rule_at b n) t P
  climb level zero most p = as_game level p
  climb level (suc zero) most p = as_game level p
  climb zero (suc (suc zero)) most p = absurd (omega (arith, most))
  climb (suc zero) (suc (suc zero)) most p = absurd (omega (arith, most))
  climb (suc (suc zero)) (suc (suc zero)) most p = p
  climb (suc (suc (suc k))) (suc (suc zero)) most p = atom_beside p
  climb zero (suc (suc (suc n))) most p = absurd (omega (arith, most))
  climb (suc zero) (suc (suc (suc n))) most p = absurd (omega (arith, most))
  climb (suc (suc zero)) (suc (suc (suc n))) most p = absurd (omega (arith, most))
  climb (suc (suc (suc k))) (suc (suc (suc n))) most p = p

pub plain_atom : (b : Bool) (t : List ℕ) (P : GameTree → Type 0) → Writes (g.plain_atom b) t P → Writes (g.atom b) t P
unfolding g.atom
plain_atom true t P p = w_right g.branch (g.plain_atom true) t P p
plain_atom false t P p = p

in_round : (b : Bool) (t : List ℕ) (P : GameTree → Type 0) → Writes (g.game_rule b) t P → Writes (g.atom b) (c.in_parens t) P
unfolding g.plain_atom g.game_in_brackets
in_round b t P p =
    plain_atom b (c.in_parens t) P
    (w_right g.call _ (c.in_parens t) P
    (w_left (g.game_in_brackets b) _ (c.in_parens t) P (w_parens (g.subgame b) t P (w_hole (game b) t P p))))

either : (b less : Bool) (n : ℕ) (s : Shown) (P : GameTree → Type 0) → (less ≡ false → n ≤ s.level) → Writes (rule_at b s.level) s.text P
    → Writes (rule_at b n) (if less then c.in_parens s.text else s.text) P
either b true n s P most p = from_atom b (c.in_parens s.text) P n (in_round b s.text P (as_game b s.text P s.level p))
either b false n s P most p = climb b s.text P s.level n (most refl) p

-- at any level, with brackets where it is above the game's own
pub writes_at : (b : Bool) (n : ℕ) (x : GameTree) → Whole b x → Writes (rule_at b n) (at_least n (shown_game x)) (SameGame x)
unfolding at_least
writes_at b n x p = either b (nat_lt (shown_game x).level n) n (shown_game x) (SameGame x) (ltb-false (shown_game x).level n) p

-- ---- compositions

pub whole_seq : (b : Bool) (x y : GameTree) → Whole b x → Whole b y → Whole b (games.Seq x y)
unfolding g.game_rule g.others_then g.next_then
whole_seq b x y p q =
    subst (λ s. Writes (rule_at b s.level) s.text (SameGame (games.Seq x y))) (sym (shown_seq x y))
    (w_text _ _ _ _ (sym (append_assoc (at_least 1 (shown_game x)) (c.mark marks.Then) (at_least 2 (shown_game y))))
    (w_onto seq_onto games.Seq seq_more (g.beside b) (g.next_then b) (at_least 1 (shown_game x)) (c.mark marks.Then ++ at_least 2 (shown_game y))
    (SameGame x) (SameGame y) (SameGame (games.Seq x y))
    (λ z w s r. game_seq z w ∙ (λ i. games.Seq (s i) (r i)) ∙ sym (game_seq x y))
    (writes_at b 1 x p)
    (w_behind (rules.mark marks.Then) (g.beside b) (c.mark marks.Then) (at_least 2 (shown_game y)) (λ _. Unit {0}) (SameGame y) (w_mark marks.Then)
    (writes_at b 2 y q))))

pub whole_par : (b : Bool) (x y : GameTree) → Whole b x → Whole b y → Whole b (games.Par x y)
unfolding g.beside g.others_beside g.next_beside
whole_par b x y p q =
    subst (λ s. Writes (rule_at b s.level) s.text (SameGame (games.Par x y))) (sym (shown_par x y))
    (w_text _ _ _ _ (sym (append_assoc (at_least 2 (shown_game x)) (c.mark marks.Beside) (at_least 3 (shown_game y))))
    (w_onto par_onto games.Par par_more (g.atom b) (g.next_beside b) (at_least 2 (shown_game x)) (c.mark marks.Beside ++ at_least 3 (shown_game y))
    (SameGame x) (SameGame y) (SameGame (games.Par x y))
    (λ z w s r. game_par z w ∙ (λ i. games.Par (s i) (r i)) ∙ sym (game_par x y))
    (writes_at b 2 x p)
    (w_behind (rules.mark marks.Beside) (g.atom b) (c.mark marks.Beside) (at_least 3 (shown_game y)) (λ _. Unit {0}) (SameGame y) (w_mark marks.Beside)
    (writes_at b 3 y q))))

pub whole_onto_seq : (b : Bool) (first : GameTree) (rest : List GameTree) → Whole b first → AllByRecursion (Whole b) rest → Whole b (seq_onto first rest)
whole_onto_seq b first [] p each = p
whole_onto_seq b first (x ∷ rest) p each = whole_onto_seq b (games.Seq first x) rest (whole_seq b first x p each.0) each.1

pub whole_onto_par : (b : Bool) (first : GameTree) (rest : List GameTree) → Whole b first → AllByRecursion (Whole b) rest → Whole b (par_onto first rest)
whole_onto_par b first [] p each = p
whole_onto_par b first (x ∷ rest) p each = whole_onto_par b (games.Par first x) rest (whole_par b first x p each.0) each.1

-- what neither composition is the outermost of
pub whole_plain : (b : Bool) (x : GameTree) → (shown_game x).level ≡ 3 → Writes (g.atom b) (shown_game x).text (SameGame x) → Whole b x
whole_plain b x level p = subst (λ n. Writes (rule_at b n) (shown_game x).text (SameGame x)) (sym level) p
