-- Trees whose canonical texts are read back.
use Rattle.std.specs.Prelude.{◌≡◌, ◌≤◌, ℕ, List, length}
use Rattle.std.specs.List.{AllByRecursion}
use Rattle.og_lex.specs.declared.token.Token.{Token}
use Rattle.og_lex.specs.Spelling.{AreTokens}
use Rattle.og_grammar.specs.Lexeme.{Lexeme}
use Rattle.og_syntax.specs.Deep.{NoneDeep}
use Rattle.og_syntax.specs.Unplaced.{program_unplaced, file_unplaced}
use Rattle.og_syntax.specs.declared.declarations.Program.{Program}
use Rattle.og_syntax.specs.declared.strategies.StrategyFile.{StrategyFile}
use Rattle.og_language.specs.Spelled.{SpellsProgram, SpellsStrategy}
use Rattle.og_canonical.specs.Programs.{program_text}
use Rattle.og_canonical.specs.Strategies.{file_text}
use Rattle.og_texts.specs.Texts.{longest_text, IsProgram, IsStrategyFile}
use Rattle.og_reread.specs.Lexemes.{IsLexeme}

-- Some tokens spell the program.
abbrev pub IsSomeProgram : Program → Type 0
IsSomeProgram p = (ts : List Lexeme) × AllByRecursion IsLexeme ts × SpellsProgram ts (p.version, p.decls)

-- Some tokens spell the strategy file.
abbrev pub IsSomeStrategy : StrategyFile → Type 0
IsSomeStrategy file = (ts : List Lexeme) × AllByRecursion IsLexeme ts × SpellsStrategy ts file.sections

-- The text keeps the limits: it isn't too long, and none of its tokens is too deep.
pub record KeepsLimits (text : List ℕ) : Type 0 where
  pub short : length text ≤ longest_text
  pub shallow : (ts : List Token) → AreTokens text ts → NoneDeep ts

-- The canonical text is a program that is the same but for its places.
pub record IsProgramAgain (p : Program) : Type 0 where
  pub again : Program
  pub is_program : IsProgram (program_text p) again
  pub same : program_unplaced again ≡ program_unplaced p

-- The canonical text is a strategy file that is the same but for its places.
pub record IsStrategyAgain (file : StrategyFile) : Type 0 where
  pub again : StrategyFile
  pub is_file : IsStrategyFile (file_text file) again
  pub same : file_unplaced again ≡ file_unplaced file
