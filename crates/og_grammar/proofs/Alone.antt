-- Where there are no nonterminals, the room makes no difference.
use Rattle.std.proofs.Common.{◌≡◌, ℕ, true, List, [], Ok, Err, ap, sym, ◌∙◌}
use Rattle.og_grammar.specs.Lexeme.{Lexeme}
use Rattle.og_grammar.specs.Rule.{Rule, spells}
use Rattle.og_grammar.specs.Reading.{Outcome, fine, read}
use Rattle.og_grammar.specs.Levels.{meaning, reader_at, readers}
use Rattle.og_grammar.specs.Alone.{Nothing, none, alone, alone_fine}
use Rattle.og_grammar.proofs.EveryDepth.{unlimited, read_symbol}
use Rattle.og_grammar.proofs.Whole as rules

no_readers : (r s : (n : Nothing) → List Lexeme → Outcome Nothing) → r ≡ s
no_readers r s = λ i n. same n i
  where
    same : (n : Nothing) → r n ≡ s n
    same n = elim n [ ]

read_alone : {A : Type 0} (room : ℕ) (f : Rule none A) (ts : List Lexeme) → read (readers alone room) f ts ≡ read (unlimited alone) f ts
read_alone room f ts = ap (λ (r : (n : Nothing) → List Lexeme → Outcome Nothing). read (record { tables = alone.tables; reader = r }) f ts) (no_readers (reader_at alone room) (read_symbol alone))

-- what is read to its end is spelled
pub spelled_to_end : {A : Type 0} (room : ℕ) (rule : Rule none A) (ts : List Lexeme) (a : A) → read (readers alone room) rule ts ≡ Ok (a, []) → spells (meaning alone) rule ts a
spelled_to_end room rule ts a is = rules.spelled_to_end alone alone_fine rule ts a (sym (read_alone room rule ts) ∙ is)

-- Where reading fails, or stops before the end, nothing is spelled.
pub unspelled_fault : {A : Type 0} (room : ℕ) (rule : Rule none A) → fine alone.tables rule ≡ true → (ts : List Lexeme) (left : ℕ) → read (readers alone room) rule ts ≡ Err left
    → (a : A) → spells (meaning alone) rule ts a → ⊥
unspelled_fault room rule f ts left r a p = rules.unspelled_fault alone alone_fine rule f ts left (sym (read_alone room rule ts) ∙ r) a p

pub unspelled_rest : {A : Type 0} (room : ℕ) (rule : Rule none A) → fine alone.tables rule ≡ true → (ts rest : List Lexeme) (a : A)
    → read (readers alone room) rule ts ≡ Ok (a, rest) → (rest ≡ [] → ⊥) → (b : A) → spells (meaning alone) rule ts b → ⊥
unspelled_rest room rule f ts rest a r left b p = rules.unspelled_rest alone alone_fine rule f ts rest a (sym (read_alone room rule ts) ∙ r) left b p
