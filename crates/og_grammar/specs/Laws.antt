-- What a reader of a rule promises, and the laws that any rule that is fine has.
use Rattle.std.specs.Prelude.{◌≡◌, ◌↔◌, ◌<◌, ◌⊎◌, ℕ, suc, true, false, List, [], ◌++◌, length, take, Result, Ok, Err}
use Rattle.og_grammar.specs.Lexeme.{Lexeme}
use Rattle.og_grammar.specs.Rule.{Nonterminals, Meaning, Rule, spells, viable}
use Rattle.og_grammar.specs.Reading.{first, more, read, read_whole, sees_any}
use Rattle.og_grammar.specs.Levels.{Grammar, meaning, readers}

-- The list goes wrong at the token of that index: those before it are viable, and those through it aren't.
-- Or it goes wrong behind its last token: it is viable, and spells nothing.
abbrev pub IsFaultAt : {N : Nonterminals} {A : Type 0} → Meaning N → Rule N A → List Lexeme → ℕ → Type 0
IsFaultAt {N} {A} m rule ts index =
    viable m rule (take index ts)
    × (((index < length ts) × (viable m rule (take (suc index) ts) → ⊥))
    ⊎ ((index ≡ length ts) × ((a : A) → spells m rule ts a → ⊥)))

-- the value for which the whole list is spelled, or where it goes wrong
abbrev pub IsVerdict : {N : Nonterminals} {A : Type 0} → Meaning N → Rule N A → List Lexeme → Result A ℕ → Type 0
IsVerdict m rule ts (Ok a) = spells m rule ts a
IsVerdict m rule ts (Err index) = IsFaultAt m rule ts index

-- Some of the tokens are spelled for the value, and the rest follows.
abbrev pub IsFront : {N : Nonterminals} {A : Type 0} → Meaning N → Rule N A → List Lexeme → A → List Lexeme → Type 0
IsFront m rule ts a rest = (front : List Lexeme) × (ts ≡ front ++ rest) × spells m rule front a

-- what is read is spelled
abbrev pub IsSound : {N : Nonterminals} {A : Type 0} → Grammar N → Rule N A → Type 0
IsSound {N} {A} g rule =
    (room : ℕ) (ts rest : List Lexeme) (a : A) → read (readers g room) rule ts ≡ Ok (a, rest)
    → IsFront (meaning g) rule ts a rest

-- What is spelled is read, whatever follows that the rule wouldn't go on with, where nonterminals may stand in
-- one another as deep as there are tokens.
abbrev pub IsComplete : {N : Nonterminals} {A : Type 0} → Grammar N → Rule N A → Type 0
IsComplete {N} {A} g rule =
    (room : ℕ) (front rest : List Lexeme) (a : A) → length (front ++ rest) < room → spells (meaning g) rule front a
    → sees_any (more g.tables rule) rest ≡ false → read (readers g room) rule (front ++ rest) ≡ Ok (a, rest)

-- a list spells at most one value
abbrev pub IsSingle : {N : Nonterminals} {A : Type 0} → Grammar N → Rule N A → Type 0
IsSingle {N} {A} g rule =
    (ts : List Lexeme) (a b : A) → spells (meaning g) rule ts a → spells (meaning g) rule ts b → a ≡ b

-- a list has at most one verdict: one value and no fault, or one fault and no value
abbrev pub IsDecided : {N : Nonterminals} {A : Type 0} → Grammar N → Rule N A → Type 0
IsDecided {N} {A} g rule =
    (ts : List Lexeme) (one other : Result A ℕ) → IsVerdict (meaning g) rule ts one
    → IsVerdict (meaning g) rule ts other → one ≡ other

-- reading a whole list gives its verdict, where nonterminals may stand in one another as deep as it has tokens
abbrev pub IsExact : {N : Nonterminals} {A : Type 0} → Grammar N → Rule N A → Type 0
IsExact g rule =
    (room : ℕ) (ts : List Lexeme) → length ts < room
    → IsVerdict (meaning g) rule ts (read_whole (readers g room) rule ts)

-- What may begin: no token, what is spelled, and each front of what may. It begins with a first kind.
pub record HasFronts {N : Nonterminals} {A : Type 0} (g : Grammar N) (rule : Rule N A) : Type 0 where
  pub empty : viable (meaning g) rule []
  pub whole : (ts : List Lexeme) (a : A) → spells (meaning g) rule ts a → viable (meaning g) rule ts
  pub fronts : (front rest : List Lexeme) → viable (meaning g) rule (front ++ rest) → viable (meaning g) rule front
  pub starts : (ts : List Lexeme) → viable (meaning g) rule ts → (ts ≡ []) ⊎ (sees_any (first g.tables rule) ts ≡ true)

-- a nonterminal spells what its rule does
abbrev pub SpellsAsRules : {N : Nonterminals} → Grammar N → Type 0
SpellsAsRules {N} g =
    (n : N.Symbol) (ts : List Lexeme) (v : N.Value n)
    → (meaning g).spelled n ts v ↔ spells (meaning g) (g.rule n) ts v
