-- Nonterminals however deep they stand in one another: what is known of them, and as many levels as tokens are enough.
use Rattle.std.proofs.Common.{◌≡◌, ℕ, zero, suc, ◌+◌, ◌-◌, ◌<◌, ◌≤◌, true, false, List, [], ◌++◌, length, refl, sym, ◌∙◌, ap, arith}
use Rattle.std.proofs.lemmas.List.{append-nil}
use Rattle.og_grammar.specs.Lexeme.{Lexeme}
use Rattle.og_grammar.specs.Rule.{Nonterminals, Rule, one, give, seq, alt, star, map, at, hole}
use Rattle.og_grammar.specs.Reading.{Readers, Outcome, more, read}
use Rattle.og_grammar.specs.Levels.{Grammar, meaning, meaning_at, reader_at, readers, guarded, IsFine}
use Rattle.og_grammar.specs.Laws.{SpellsAsRules}
use Rattle.og_grammar.proofs.TerminalSets.{sees_none}
use Rattle.og_grammar.proofs.Starts.{Begins}
use Rattle.og_grammar.proofs.Sound.{IsRight, sound}
use Rattle.og_grammar.proofs.Complete.{IsWhole, complete}
use Rattle.og_grammar.proofs.Levels.{begins_at, right_at, whole_at, level_more, agrees}

-- as many levels as tokens are enough
enough : {N : Nonterminals} (g : Grammar N) → IsFine g → (more : ℕ) (n : N.Symbol) (ts : List Lexeme) → reader_at g (suc (length ts)) n ts ≡ reader_at g (more + suc (length ts)) n ts
enough g e zero n ts = let same : 0 + suc (length ts) ≡ suc (length ts) = omega arith in rw same refl
enough g e (suc k) n ts =
    let next = level_more g e (k + suc (length ts)) n ts (omega arith) in
    let same : suc k + suc (length ts) ≡ suc (k + suc (length ts)) = omega arith in
    rw same (enough g e k n ts ∙ next)

-- how each nonterminal is read with as many levels as tokens
unfoldable pub read_symbol : {N : Nonterminals} (g : Grammar N) (n : N.Symbol) → List Lexeme → Outcome (N.Value n)
read_symbol g n ts = reader_at g (suc (length ts)) n ts

-- the readers with as many levels as tokens
abbrev pub unlimited : {N : Nonterminals} → Grammar N → Readers N
unlimited g = record { tables = g.tables; reader = read_symbol g }

symbol_at : {N : Nonterminals} (g : Grammar N) → IsFine g → (k : ℕ) (n : N.Symbol) (ts : List Lexeme) → length ts < k → reader_at g k n ts ≡ read_symbol g n ts
unfolding read_symbol
symbol_at g e zero n ts less = absurd (omega (arith, less))
symbol_at g e (suc k) n ts less =
    let same : (k - length ts) + suc (length ts) ≡ suc k = omega (arith, less) in
    sym (enough g e (k - length ts) n ts ∙ ap (λ m. reader_at g m n ts) same)

pub begins : {N : Nonterminals} (g : Grammar N) → IsFine g → Begins (meaning g) (unlimited g)
begins g e = record {
  starting = λ n xs v p. (begins_at g e p.0 0).starting n xs v p.1;
  beginning = λ n xs p. (begins_at g e p.0 0).beginning n xs p.1;
  empty = λ n. (0, refl);
  whole = λ n xs v p. (p.0, (begins_at g e p.0 0).whole n xs v p.1);
  fronts = λ n ts xs ys cut p. (p.0, (begins_at g e p.0 0).fronts n ts xs ys cut p.1);
}

pub right : {N : Nonterminals} (g : Grammar N) → IsFine g → IsRight (meaning g) (unlimited g)
unfolding read_symbol
right g e = record {
  gives = λ n ts a rest is.
      let r = (right_at g e (suc (length ts))).gives n ts a rest is in
      record { front = r.front; cut = r.cut; spelled = (suc (length ts), r.spelled) };
  faults = λ n ts left is.
      let p = (right_at g e (suc (length ts))).faults n ts left is in
      record { front = p.front; rest = p.rest; cut = p.cut; long = p.long; begun = (suc (length ts), p.begun) };
}

pub whole : {N : Nonterminals} (g : Grammar N) → IsFine g → IsWhole (meaning g) (unlimited g)
whole g e = record {
  takes = λ n xs rest a p s.
      let le : p.0 ≤ p.0 + suc (length (xs ++ rest)) = omega arith in
      let is = (whole_at g e p.0 (p.0 + suc (length (xs ++ rest))) le).takes n xs rest a p.1 s in
      sym (symbol_at g e (p.0 + suc (length (xs ++ rest))) n (xs ++ rest) (omega arith)) ∙ is;
  passing = λ n xs rest p.
      let le : p.0 ≤ p.0 + suc (length (xs ++ rest)) = omega arith in
      let fits = (whole_at g e p.0 (p.0 + suc (length (xs ++ rest))) le).passing n xs rest p.1 in
      let same = symbol_at g e (p.0 + suc (length (xs ++ rest))) n (xs ++ rest) (omega arith) in
      rw same at fits;
  fewer = λ n ts.
      let fits = (whole_at g e 0 (suc (length ts)) (omega arith)).fewer n ts in
      let same = symbol_at g e (suc (length ts)) n ts (omega arith) in
      rw same at fits;
}

-- each nonterminal is read as its rule
pub read_as_rule : {N : Nonterminals} (g : Grammar N) → IsFine g → (n : N.Symbol) (ts : List Lexeme) → read_symbol g n ts ≡ read (unlimited g) (g.rule n) ts
read_as_rule g e n ts =
    let deep : reader_at g (suc (length ts)) n ts ≡ read_symbol g n ts = symbol_at g e (suc (length ts)) n ts (omega arith) in
    sym deep
    ∙ agrees (meaning_at g (length ts)) (readers g (length ts)) (begins_at g e (length ts) (length ts)) (right_at g e (length ts)) (read_symbol g) (length ts)
    (λ s us less. symbol_at g e (length ts) s us less) false (g.rule n) (e.behind n) ts (omega arith)

-- a rule may begin with a nonterminal where no token must stand before one
all_guarded : {N : Nonterminals} {A : Type 0} (f : Rule N A) → guarded true f ≡ true
all_guarded (one k test) = refl
all_guarded (give a) = refl
all_guarded (seq f g) = let p = all_guarded f in let q = all_guarded g in rw p q
all_guarded (alt f g) = let p = all_guarded f in let q = all_guarded g in rw p q
all_guarded (star f) = all_guarded f
all_guarded (map h f) = all_guarded f
all_guarded (at f) = all_guarded f
all_guarded (hole n) = refl

-- with more room than tokens, all is read
pub room_enough : {N : Nonterminals} {A : Type 0} (g : Grammar N) → IsFine g → (f : Rule N A) (room : ℕ) (ts : List Lexeme) → length ts < room → read (readers g room) f ts ≡ read (unlimited g) f ts
room_enough g e f room ts less =
    agrees (meaning_at g room) (readers g room) (begins_at g e room room) (right_at g e room) (read_symbol g) room
    (λ s us shorter. symbol_at g e room s us shorter) true f (all_guarded f) ts (omega (arith, less))

-- what is read in any room is right
pub right_in : {N : Nonterminals} (g : Grammar N) → IsFine g → (room : ℕ) → IsRight (meaning g) (readers g room)
right_in g e room = record {
  gives = λ n ts a rest is.
      let r = (right_at g e room).gives n ts a rest is in
      record { front = r.front; cut = r.cut; spelled = (room, r.spelled) };
  faults = λ n ts left is.
      let p = (right_at g e room).faults n ts left is in
      record { front = p.front; rest = p.rest; cut = p.cut; long = p.long; begun = (room, p.begun) };
}

pub spells_as_rules : {N : Nonterminals} (g : Grammar N) → IsFine g → SpellsAsRules g
spells_as_rules g e n ts v = (
  λ p.
      let is = ap (read_symbol g n) (sym (append-nil ts)) ∙ (whole g e).takes n ts [] v p (sees_none (g.tables.more_terminals n)) in
      let r = sound (meaning g) (unlimited g) (right g e) (g.rule n) ts v [] (sym (read_as_rule g e n ts) ∙ is) in
      rw (r.cut ∙ append-nil r.front) r.spelled,
  λ p.
      let is = ap (read (unlimited g) (g.rule n)) (sym (append-nil ts)) ∙ complete (meaning g) (unlimited g) (begins g e) (whole g e) (g.rule n) (e.lead n) ts [] v p (sees_none (more g.tables (g.rule n))) in
      let r = (right g e).gives n ts v [] (read_as_rule g e n ts ∙ is) in
      rw (r.cut ∙ append-nil r.front) r.spelled,
)
