-- The canonical text of strategy files.
use Rattle.std.specs.Prelude.{ℕ, List, ◌++◌, flat_map}
use Rattle.og_lex.specs.declared.token.Word.TheVariants as words
use Rattle.og_lex.specs.declared.token.Mark.TheVariants as marks
use Rattle.og_syntax.specs.declared.strategies.StrategyFile.{StrategyFile}
use Rattle.og_syntax.specs.declared.strategies.Section.{Section}
use Rattle.og_canonical.specs.Tokens.{mark, word, quoted}
use Rattle.og_canonical.specs.Values.{row_text}

-- the head of a section, up to its brace
unfoldable pub head_text : List ℕ → List ℕ
head_text agent = word words.Strategy ++ quoted agent ++ mark marks.LeftBrace

unfoldable pub section_text : Section → List ℕ
section_text section = head_text section.agent.name ++ flat_map row_text section.rows ++ mark marks.RightBrace

abbrev pub file_text : StrategyFile → List ℕ
file_text file = flat_map section_text file.sections
