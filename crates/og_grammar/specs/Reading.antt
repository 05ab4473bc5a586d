-- How a rule is read with no step back: by the terminal of the next token alone. A rule for which that is
-- right is called fine.
use Rattle.std.specs.Prelude.{Bool, true, false, not, ◌&&◌, ◌||◌, ℕ, zero, suc, if◌then◌else◌, List, [], ◌∷◌, ◌++◌, length, ◌-◌, Result, Ok, Err}
use Rattle.og_grammar.specs.Lexeme.{Lexeme, inside_quotes}
use Rattle.og_grammar.specs.declared.terminal.Terminal.{Terminal}
use Rattle.og_lex.specs.declared.token.Mark.TheVariants.{Comma}
use Rattle.og_grammar.specs.declared.terminal.Terminal.TheVariants.{Number, Text, Mark}
use Rattle.og_grammar.specs.Rule.{Rule, one, give, seq, alt, star, map, at, hole, same_terminal, Nonterminals}

-- ---- sets of terminals

-- a set is a list, whose order says nothing
abbrev pub has : List Terminal → Terminal → Bool
has [] k = false
has (l ∷ ls) k = same_terminal k l || has ls k

-- no terminal is in both
abbrev pub apart : List Terminal → List Terminal → Bool
apart [] ls = true
apart (k ∷ ks) ls = not (has ls k) && apart ks ls

-- the set, where the flag is true, and else the empty one
abbrev pub terminals_if : Bool → List Terminal → List Terminal
terminals_if b ks = if b then ks else []

-- the next token is for the terminal
unfoldable pub sees : Terminal → List Lexeme → Bool
sees k [] = false
sees k (t ∷ ts) = same_terminal t.terminal k

-- the next token is for one of the terminals
abbrev pub sees_any : List Terminal → List Lexeme → Bool
sees_any [] ts = false
sees_any (k ∷ ks) ts = sees k ts || sees_any ks ts

-- ---- what the next token may be

-- a value and the tokens after it, or how many tokens are left at the fault
abbrev pub Outcome : Type 0 → Type 0
Outcome A = Result (A × List Lexeme) ℕ

-- For each nonterminal the terminals that a first token may be for, and those with which it would go on where it
-- could also end.
pub record Tables (N : Nonterminals) : Type 0 where
  pub first_terminals : N.Symbol → List Terminal
  pub more_terminals : N.Symbol → List Terminal

-- how each nonterminal is read
pub record Readers (N : Nonterminals) : Type 0 where
  pub tables : Tables N
  pub reader : (n : N.Symbol) → List Lexeme → Outcome (N.Value n)

-- spells no token, for some value
abbrev pub nullable : {N : Nonterminals} {A : Type 0} → Rule N A → Bool
nullable (one k test) = false
nullable (give a) = true
nullable (seq f g) = nullable f && nullable g
nullable (alt f g) = nullable f || nullable g
nullable (star f) = true
nullable (map h f) = nullable f
nullable (at f) = nullable f
nullable (hole n) = false

-- the terminals that a first token may be for
abbrev pub first : {N : Nonterminals} {A : Type 0} → Tables N → Rule N A → List Terminal
first t (one k test) = k ∷ []
first t (give a) = []
first t (seq f g) = first t f ++ terminals_if (nullable f) (first t g)
first t (alt f g) = first t f ++ first t g
first t (star f) = first t f
first t (map h f) = first t f
first t (at f) = first t f
first t (hole n) = t.first_terminals n

-- the terminals with which the rule would go on where it could also end
abbrev pub more : {N : Nonterminals} {A : Type 0} → Tables N → Rule N A → List Terminal
more t (one k test) = []
more t (give a) = []
more t (seq f g) = more t g ++ terminals_if (nullable g) (more t f)
more t (alt f g) = more t f ++ (more t g ++ terminals_if (nullable g) (first t f))
more t (star f) = more t f ++ first t f
more t (map h f) = more t f
more t (at f) = more t f
more t (hole n) = t.more_terminals n

-- The next token alone says how the rule goes on, and a part with a place has a token.
abbrev pub fine : {N : Nonterminals} {A : Type 0} → Tables N → Rule N A → Bool
fine t (one k test) = true
fine t (give a) = true
fine t (seq f g) = fine t f && (fine t g && apart (more t f) (first t g))
fine t (alt f g) = fine t f && (fine t g && (not (nullable f) && apart (first t f) (first t g)))
fine t (star f) = fine t f && (not (nullable f) && apart (more t f) (first t f))
fine t (map h f) = fine t f
fine t (at f) = fine t f && not (nullable f)
fine t (hole n) = true

-- ---- reading

-- goes on with the value and the tokens after it
abbrev pub and_then : {A B : Type 0} → Outcome A → (A → List Lexeme → Outcome B) → Outcome B
and_then (Ok v) f = f v.0 v.1
and_then (Err left) f = Err left

-- the same tokens after another value
abbrev pub with_value : {A B : Type 0} → (A → B) → Outcome A → Outcome B
with_value h (Ok v) = Ok (h v.0, v.1)
with_value h (Err left) = Err left

-- the values that were found before, in front of those that the rest gives
abbrev pub with_front : {A : Type 0} → List A → Outcome (List A) → Outcome (List A)
with_front found = with_value (λ vs. found ++ vs)

-- where the first token stands
unfoldable pub place : List Lexeme → ℕ
place [] = 0
place (t ∷ ts) = t.start

-- any token
abbrev pub any : Lexeme → Bool
any _ = true

-- the next token, where it is for the terminal and passes the test, and else a fault at it
unfoldable pub read_token : Terminal → (Lexeme → Bool) → List Lexeme → Outcome Lexeme
read_token k test [] = Err 0
read_token k test (t ∷ ts) = if same_terminal t.terminal k && test t then Ok (t, ts) else Err (length (t ∷ ts))

-- the value of the next token where it is a number, and its bytes
unfoldable pub next_value : List Lexeme → ℕ
next_value [] = 0
next_value (t ∷ ts) = t.value

unfoldable pub next_spelling : List Lexeme → List ℕ
next_spelling [] = []
next_spelling (t ∷ ts) = t.spelling

-- a token for the terminal, as its place, as its bytes, and a number as its value
abbrev pub read_place : Terminal → List Lexeme → Outcome ℕ
read_place k ts = with_value (λ t. t.start) (read_token k any ts)

abbrev pub read_spelling : Terminal → List Lexeme → Outcome (List ℕ)
read_spelling k ts = with_value (λ t. t.spelling) (read_token k any ts)

abbrev pub read_number : List Lexeme → Outcome ℕ
read_number ts = with_value (λ t. t.value) (read_token Number any ts)

-- a text in quotes, as what stands between them
abbrev pub read_quoted : List Lexeme → Outcome (List ℕ)
read_quoted ts = with_value (λ t. inside_quotes t.spelling) (read_token Text any ts)

-- values in turn while the next token is for one of the terminals, at most so many
unfoldable pub read_each : {A : Type 0} → List Terminal → (List Lexeme → Outcome A) → ℕ → List Lexeme → Outcome (List A)
read_each ks item zero ts = Ok ([], ts)
read_each ks item (suc n) ts =
    if sees_any ks ts then and_then (item ts) (λ v rest. with_value (λ vs. v ∷ vs) (read_each ks item n rest))
    else Ok ([], ts)

-- Each turn takes a token, so there are at most as many turns as tokens.
unfoldable pub read_all : {A : Type 0} → List Terminal → (List Lexeme → Outcome A) → List Lexeme → Outcome (List A)
read_all ks item ts = read_each ks item (length ts) ts

-- a token for the terminal, and what is read behind it
abbrev pub read_behind : {A : Type 0} → Terminal → (List Lexeme → Outcome A) → List Lexeme → Outcome A
read_behind {A} k item ts =
    with_value (λ (v : ℕ × A). v.1) (and_then (read_place k ts) (λ a rest. with_value (λ b. (a, b)) (item rest)))

-- values with a token for the terminal between each two, one or more
abbrev pub read_separated : {A : Type 0} → Terminal → (List Lexeme → Outcome A) → List Lexeme → Outcome (List A)
read_separated {A} k item ts =
    with_value (λ (v : A × List A). v.0 ∷ v.1)
    (and_then (item ts) (λ a rest. with_value (λ b. (a, b)) (read_all (k ∷ []) (read_behind k item) rest)))

-- the same, behind values that were found before
abbrev pub read_separated_onto : {A : Type 0} → Terminal → List A → (List Lexeme → Outcome A) → List Lexeme → Outcome (List A)
read_separated_onto k before item ts = with_front before (read_separated k item ts)

-- values with commas between, two or more
abbrev pub read_two_or_more : {A : Type 0} → (List Lexeme → Outcome A) → List Lexeme → Outcome (List A)
read_two_or_more {A} item ts =
    with_value (λ (v : A × List A). v.0 ∷ v.1)
    (and_then (item ts) (λ a rest. with_value (λ b. (a, b)) (read_behind (Mark Comma) (read_separated (Mark Comma) item) rest)))

-- values with commas between, one or more, or none where the next token is for none of the terminals
abbrev pub read_commas_or_none :
    {A : Type 0} → List Terminal → (List Lexeme → Outcome A) → List Lexeme → Outcome (List A)
read_commas_or_none ks item ts = if sees_any ks ts then read_separated (Mark Comma) item ts else Ok ([], ts)

-- The value that the rule spells at the front of the tokens, by the next token alone, or the fault at the
-- first token with which nothing is spelled. It is defined for any rule, and right for a fine one.
abbrev pub read : {N : Nonterminals} {A : Type 0} → Readers N → Rule N A → List Lexeme → Outcome A
read d (one k test) = read_token k test
read d (give a) = λ ts. Ok (a, ts)
read d (seq f g) = λ ts. and_then (read d f ts) (λ a rest. with_value (λ b. (a, b)) (read d g rest))
read d (alt f g) = λ ts. if sees_any (first d.tables f) ts then read d f ts else read d g ts
read d (star f) = read_all (first d.tables f) (read d f)
read d (map h f) = λ ts. with_value h (read d f ts)
read d (at f) = λ ts. with_value (λ a. (place ts, a)) (read d f ts)
read d (hole n) = d.reader n

-- The value, where no token is left, and else the index of the first one that is left. A fault has its
-- index likewise.
abbrev pub value_at_end : {A : Type 0} → ℕ → Outcome A → Result A ℕ
value_at_end count (Ok v) = elim (v.1) [ [] ↦ Ok v.0 | t ∷ ts ↦ Err (count - length (t ∷ ts)) ]
value_at_end count (Err left) = Err (count - left)

-- the value that the whole list is read as, or the index of the token at which it goes wrong
abbrev pub read_whole : {N : Nonterminals} {A : Type 0} → Readers N → Rule N A → List Lexeme → Result A ℕ
read_whole d f ts = value_at_end (length ts) (read d f ts)
