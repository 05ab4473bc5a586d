-- A token as grammars see it: what stands for it in a rule, its value, its place, and the bytes that write it.
use Rattle.std.specs.Prelude.{ℕ, ◌-◌, nat_lt, Bool, false, ◌==◌, ◌&&◌, if◌then◌else◌, List, [], ◌∷◌, length, map, slice_index, slice_range}
use Rattle.og_lex.specs.declared.token.Token.{Token}
use Rattle.og_lex.specs.declared.token.Kind.{Kind}
use Rattle.og_lex.specs.declared.token.Kind.TheVariants as kinds
use Rattle.og_grammar.specs.declared.terminal.Terminal.{Terminal}
use Rattle.og_grammar.specs.declared.terminal.Terminal.TheVariants as terminals

pub record Lexeme : Type 0 where
  pub terminal : Terminal
  -- of a number its value, else 0
  pub value : ℕ
  -- where it begins
  pub start : ℕ
  pub spelling : List ℕ

-- the terminal that stands for tokens of the kind
abbrev pub terminal_of : Kind → Terminal
terminal_of kinds.Name = terminals.Name
terminal_of kinds.Under = terminals.Under
terminal_of (kinds.Number n) = terminals.Number
terminal_of kinds.Text = terminals.Text
terminal_of (kinds.Word w) = terminals.Word w
terminal_of (kinds.Mark m) = terminals.Mark m
terminal_of kinds.Separator = terminals.Separator

abbrev pub value_of : Kind → ℕ
value_of (kinds.Number n) = n
value_of k = 0

abbrev pub lexeme_of : List ℕ → Token → Lexeme
lexeme_of text t = record {
  terminal = terminal_of t.kind;
  value = value_of t.kind;
  start = t.start;
  spelling = slice_range text t.start t.end;
}

-- the tokens of the text, in order
abbrev pub lexemes_of : List ℕ → List Token → List Lexeme
lexemes_of text tokens = map (lexeme_of text) tokens

-- ends in a double quote
abbrev pub ends_quoted : List ℕ → Bool
ends_quoted cs = nat_lt 0 (length cs) && slice_index cs (length cs - 1) == 34

-- in double quotes
abbrev pub is_quoted : List ℕ → Bool
is_quoted [] = false
is_quoted (c ∷ cs) = c == 34 && ends_quoted cs

-- what stands between the quotes, and nothing where there are none
abbrev pub inside_quotes : List ℕ → List ℕ
inside_quotes spelling = if is_quoted spelling then slice_range spelling 1 (length spelling - 1) else []
