-- A grammar whose rules may stand in one another: what it means, first where they do so at most so many deep.
use Rattle.std.specs.Prelude.{◌≡◌, ℕ, zero, suc, Bool, true, false, not, ◌&&◌, ◌||◌, List, [], length, Err}
use Rattle.og_grammar.specs.Lexeme.{Lexeme}
use Rattle.og_grammar.specs.Rule.{Nonterminals, Meaning, Rule, one, give, seq, alt, star, map, at, hole, spells, viable}
use Rattle.og_grammar.specs.Reading.{Tables, Readers, Outcome, sees_any, nullable, first, more, fine, read}

-- a rule for each nonterminal, with its terminals
pub record Grammar (N : Nonterminals) : Type 1 where
  pub rule : (n : N.Symbol) → Rule N (N.Value n)
  pub tables : Tables N

-- what each nonterminal spells where they stand in one another at most so many deep
abbrev pub meaning_at : {N : Nonterminals} → Grammar N → ℕ → Meaning N
meaning_at g zero = record { spelled = λ n ts v. ⊥; begun = λ n ts. ts ≡ [] }
meaning_at g (suc k) = record {
  spelled = λ n. spells (meaning_at g k) (g.rule n);
  begun = λ n. viable (meaning_at g k) (g.rule n);
}

-- what each nonterminal spells, however deep
abbrev pub meaning : {N : Nonterminals} → Grammar N → Meaning N
meaning g = record {
  spelled = λ n ts v. (k : ℕ) × (meaning_at g k).spelled n ts v;
  begun = λ n ts. (k : ℕ) × (meaning_at g k).begun n ts;
}

-- ---- reading

-- how each nonterminal is read where they stand in one another at most so many deep
abbrev pub reader_at : {N : Nonterminals} → Grammar N → ℕ → (n : N.Symbol) → List Lexeme → Outcome (N.Value n)
reader_at g zero n ts = Err (length ts)
reader_at g (suc k) n ts = read (record { tables = g.tables; reader = reader_at g k }) (g.rule n) ts

-- how all are read where they may stand in one another so many deep
abbrev pub readers : {N : Nonterminals} → Grammar N → ℕ → Readers N
readers g room = record { tables = g.tables; reader = reader_at g room }

-- Nonterminals stand behind a token only; the flag says that one was taken.
abbrev pub guarded : {N : Nonterminals} {A : Type 0} → Bool → Rule N A → Bool
guarded b (one k test) = true
guarded b (give a) = true
guarded b (seq f g) = guarded b f && guarded (b || not (nullable f)) g
guarded b (alt f g) = guarded b f && guarded b g
guarded b (star f) = guarded b f
guarded b (map h f) = guarded b f
guarded b (at f) = guarded b f
guarded b (hole n) = b

-- Each nonterminal takes a token, the next token alone says how its rule goes on, its terminals are told, and it
-- has no nonterminal in front.
pub record IsFine {N : Nonterminals} (g : Grammar N) : Type 0 where
  pub filled : (n : N.Symbol) → nullable (g.rule n) ≡ false
  pub lead : (n : N.Symbol) → fine g.tables (g.rule n) ≡ true
  pub firsts : (n : N.Symbol) (ts : List Lexeme) → sees_any (first g.tables (g.rule n)) ts ≡ true → sees_any (g.tables.first_terminals n) ts ≡ true
  pub mores : (n : N.Symbol) (ts : List Lexeme) → sees_any (g.tables.more_terminals n) ts ≡ false → sees_any (more g.tables (g.rule n)) ts ≡ false
  pub behind : (n : N.Symbol) → guarded false (g.rule n) ≡ true
