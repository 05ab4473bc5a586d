-- The lexemes that tokens of a text can have.
use Rattle.std.specs.Prelude.{◌≡◌}
use Rattle.std.specs.Str.{chars, IsUtf8}
use Rattle.og_lex.specs.declared.token.Kind.{Kind}
use Rattle.og_lex.specs.Spelling.{Spells}
use Rattle.og_grammar.specs.Lexeme.{Lexeme, terminal_of, value_of}

-- A token can be so, wherever it stands.
pub record IsLexeme (t : Lexeme) : Type 0 where
  pub kind : Kind
  pub terminal : t.terminal ≡ terminal_of kind
  pub value : t.value ≡ value_of kind
  pub utf8 : IsUtf8 t.spelling
  pub spelled : Spells kind (chars t.spelling)
