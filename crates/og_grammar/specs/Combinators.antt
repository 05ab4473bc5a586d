-- Shorthands for rules.
use Rattle.std.specs.Prelude.{ℕ, List, [], ◌∷◌, Option, Some, None}
use Rattle.og_lex.specs.declared.token.Mark.{Mark}
use Rattle.og_lex.specs.declared.token.Mark.TheVariants as marks
use Rattle.og_lex.specs.declared.token.Word.{Word}
use Rattle.og_grammar.specs.declared.terminal.Terminal.{Terminal}
use Rattle.og_grammar.specs.declared.terminal.Terminal.TheVariants as terminals
use Rattle.og_grammar.specs.Lexeme.{Lexeme, inside_quotes}
use Rattle.og_grammar.specs.Reading.{any}
use Rattle.og_grammar.specs.Rule.{Nonterminals, Rule, one, give, seq, alt, star, map}

-- a token for the terminal
abbrev pub token : {N : Nonterminals} → Terminal → Rule N Lexeme
token terminal = one terminal any

-- a token for the terminal, as its place
abbrev pub place_of : {N : Nonterminals} → Terminal → Rule N ℕ
place_of terminal = map (λ t. t.start) (token terminal)

-- this reserved word, as its place
abbrev pub word : {N : Nonterminals} → Word → Rule N ℕ
word w = place_of (terminals.Word w)

-- this mark, as its place
abbrev pub mark : {N : Nonterminals} → Mark → Rule N ℕ
mark m = place_of (terminals.Mark m)

-- a token for the terminal, as the bytes that write it
abbrev pub spelling_of : {N : Nonterminals} → Terminal → Rule N (List ℕ)
spelling_of terminal = map (λ t. t.spelling) (token terminal)

-- a text in quotes, as what stands between them
abbrev pub quoted : {N : Nonterminals} → Rule N (List ℕ)
quoted = map (λ t. inside_quotes t.spelling) (token terminals.Text)

-- a number, as its value
abbrev pub number : {N : Nonterminals} → Rule N ℕ
number = map (λ t. t.value) (token terminals.Number)

-- Of two in turn, behind keeps the second and before the first.
abbrev pub behind : {N : Nonterminals} {A B : Type 0} → Rule N A → Rule N B → Rule N B
behind f g = map (λ v. v.1) (seq f g)

abbrev pub before : {N : Nonterminals} {A B : Type 0} → Rule N A → Rule N B → Rule N A
before f g = map (λ v. v.0) (seq f g)

-- what stands between the other two
abbrev pub within : {N : Nonterminals} {A B C : Type 0} → Rule N A → Rule N B → Rule N C → Rule N B
within left f right = behind left (before f right)

-- once or not at all
abbrev pub opt : {N : Nonterminals} {A : Type 0} → Rule N A → Rule N (Option A)
opt f = alt (map Some f) (give None)

-- once or more, with a token for the terminal between each two
abbrev pub separated : {N : Nonterminals} {A : Type 0} → Terminal → Rule N A → Rule N (List A)
separated k f = map (λ v. v.0 ∷ v.1) (seq f (star (behind (place_of k) f)))

-- once or more, with commas between
abbrev pub commas : {N : Nonterminals} {A : Type 0} → Rule N A → Rule N (List A)
commas f = separated (terminals.Mark marks.Comma) f

-- twice or more, with commas between
abbrev pub two_or_more : {N : Nonterminals} {A : Type 0} → Rule N A → Rule N (List A)
two_or_more f = map (λ v. v.0 ∷ v.1) (seq f (behind (mark marks.Comma) (commas f)))

-- any number of times, with commas between
abbrev pub commas_or_none : {N : Nonterminals} {A : Type 0} → Rule N A → Rule N (List A)
commas_or_none f = alt (commas f) (give [])
