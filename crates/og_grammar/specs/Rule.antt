-- Grammars as data, and what they spell.
use Rattle.std.specs.Prelude.{◌≡◌, ℕ, ◌+◌, ◌*◌, Bool, true, ◌==◌, List, [], ◌∷◌, ◌++◌, ◌⊎◌}
use denote.Enum.Declared.{tag_of}
use Rattle.og_grammar.specs.Lexeme.{Lexeme}
use Rattle.og_grammar.specs.declared.terminal.Terminal.{Terminal}
use Rattle.og_grammar.specs.declared.terminal.Terminal.TheVariants.{Name, Under, Number, Text, Word, Mark, Separator}
use Rattle.og_lex.specs.contracts.token.Word as words
use Rattle.og_lex.specs.contracts.token.Mark as marks

-- The nonterminals of a grammar, rules that may stand in one another, and the type of the values of each.
pub record Nonterminals : Type 1 where
  pub Symbol : Type 0
  pub Value : Symbol → Type 0

-- A rule for values of a type.
pub data Rule (N : Nonterminals) : Type 0 → Type 1 where
  -- a token for the terminal that passes the test
  one : Terminal → (Lexeme → Bool) → Rule N Lexeme
  -- no token, for this value
  give : {A : Type 0} → A → Rule N A
  -- the one, and behind it the other
  seq : {A B : Type 0} → Rule N A → Rule N B → Rule N (A × B)
  -- either
  alt : {A : Type 0} → Rule N A → Rule N A → Rule N A
  -- any number of times, in turn
  star : {A : Type 0} → Rule N A → Rule N (List A)
  -- what the function makes of a value
  map : {A B : Type 0} → (A → B) → Rule N A → Rule N B
  -- the place of the first token, and a value
  at : {A : Type 0} → Rule N A → Rule N (ℕ × A)
  -- what a nonterminal stands for
  hole : (n : N.Symbol) → Rule N (N.Value n)

-- a number for each terminal
abbrev pub terminal_number : Terminal → ℕ
terminal_number Name = 0
terminal_number Under = 1
terminal_number Number = 2
terminal_number Text = 3
terminal_number Separator = 4
terminal_number (Word w) = 5 + 2 * tag_of words.the_type w
terminal_number (Mark m) = 6 + 2 * tag_of marks.the_type m

-- equal
unfoldable pub same_terminal : Terminal → Terminal → Bool
same_terminal k l = terminal_number k == terminal_number l

-- a token for the terminal that passes the test
abbrev pub IsToken : Terminal → (Lexeme → Bool) → List Lexeme → Lexeme → Type 0
IsToken k test ts t = (ts ≡ t ∷ []) × (same_terminal t.terminal k ≡ true) × (test t ≡ true)

-- a list that is cut in two, with the parts of a pair for its parts
abbrev pub InTurn : {A B : Type 0} → (List Lexeme → A → Type 0) → (List Lexeme → B → Type 0) → List Lexeme → A × B → Type 0
InTurn f g ts v = (xs : List Lexeme) × (ys : List Lexeme) × (ts ≡ xs ++ ys) × f xs v.0 × g ys v.1

-- a list that is cut in as many parts as there are values
abbrev pub EachInTurn : {A : Type 0} → (List Lexeme → A → Type 0) → List Lexeme → List A → Type 0
EachInTurn f ts [] = ts ≡ []
EachInTurn f ts (v ∷ vs) = (xs : List Lexeme) × (ys : List Lexeme) × (ts ≡ xs ++ ys) × f xs v × EachInTurn f ys vs

-- where the first token stands; of no tokens it says nothing
abbrev pub IsPlaceOf : List Lexeme → ℕ → Type 0
IsPlaceOf [] place = Unit {0}
IsPlaceOf (t ∷ ts) place = place ≡ t.start

-- a list for a value, with the place of its first token
abbrev pub WithPlace : {A : Type 0} → (List Lexeme → A → Type 0) → List Lexeme → ℕ × A → Type 0
WithPlace f ts v = IsPlaceOf ts v.0 × f ts v.1

-- what each nonterminal spells, and how that may begin
pub record Meaning (N : Nonterminals) : Type 1 where
  pub spelled : (n : N.Symbol) → List Lexeme → N.Value n → Type 0
  pub begun : N.Symbol → List Lexeme → Type 0

-- the tokens are spelled by the rule, for the value
abbrev pub spells : {N : Nonterminals} {A : Type 0} → Meaning N → Rule N A → List Lexeme → A → Type 0
spells m (one k test) = IsToken k test
spells m (give a) = λ ts v. (ts ≡ []) × (v ≡ a)
spells m (seq f g) = InTurn (spells m f) (spells m g)
spells m (alt f g) = λ ts v. spells m f ts v ⊎ spells m g ts v
spells m (star f) = EachInTurn (spells m f)
spells m (map {A} h f) = λ ts v. (a : A) × spells m f ts a × (v ≡ h a)
spells m (at f) = WithPlace (spells m f)
spells m (hole n) = m.spelled n

-- ---- how a spelled list may begin

-- no token, or one for the terminal that passes the test
abbrev pub BeginsToken : Terminal → (Lexeme → Bool) → List Lexeme → Type 0
BeginsToken k test ts = (ts ≡ []) ⊎ ((t : Lexeme) × IsToken k test ts t)

-- what the first part may begin with, or the whole of it with what the other may begin with behind it
abbrev pub BeginsInTurn :
    {A : Type 0} → (List Lexeme → Type 0) → (List Lexeme → A → Type 0) → (List Lexeme → Type 0) → List Lexeme → Type 0
BeginsInTurn {A} begins whole next ts =
    begins ts ⊎ ((xs : List Lexeme) × (ys : List Lexeme) × (a : A) × (ts ≡ xs ++ ys) × whole xs a × next ys)

-- as many whole parts as there are values, none at the least, with what one more may begin with behind them
abbrev pub BeginsEach : {A : Type 0} → (List Lexeme → A → Type 0) → (List Lexeme → Type 0) → List Lexeme → Type 0
BeginsEach {A} whole begins ts =
    (xs : List Lexeme) × (ys : List Lexeme) × (vs : List A) × (ts ≡ xs ++ ys) × EachInTurn whole xs vs × begins ys

-- The tokens are the first ones of what the rule may spell: parts that are spelled, none at the least,
-- and behind them some that are viable for the next part.
abbrev pub viable : {N : Nonterminals} {A : Type 0} → Meaning N → Rule N A → List Lexeme → Type 0
viable m (one k test) = BeginsToken k test
viable m (give a) = λ ts. ts ≡ []
viable m (seq f g) = BeginsInTurn (viable m f) (spells m f) (viable m g)
viable m (alt f g) = λ ts. viable m f ts ⊎ viable m g ts
viable m (star f) = BeginsEach (spells m f) (viable m f)
viable m (map h f) = viable m f
viable m (at f) = viable m f
viable m (hole n) = m.begun n
