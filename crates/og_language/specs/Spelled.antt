-- What a list of tokens is a text of.
use Rattle.std.specs.Prelude.{ℕ, List, Result}
use Rattle.og_grammar.specs.Lexeme.{Lexeme}
use Rattle.og_grammar.specs.Rule.{spells, viable}
use Rattle.og_grammar.specs.Levels.{meaning}
use Rattle.og_grammar.specs.Laws.{IsVerdict}
use Rattle.og_syntax.specs.declared.declarations.Decl.{Decl}
use Rattle.og_syntax.specs.declared.strategies.Section.{Section}
use Rattle.og_language.specs.Grammar.{program, strategy}
use Rattle.og_language.specs.Language.{language}

-- a program's version and its declarations
abbrev pub Parts : Type 0
Parts = ℕ × List Decl

-- The tokens spell a program with this version and these declarations.
abbrev pub SpellsProgram : List Lexeme → Parts → Type 0
SpellsProgram = spells (meaning language) program

-- They may begin one.
abbrev pub MayBeginProgram : List Lexeme → Type 0
MayBeginProgram = viable (meaning language) program

-- the program that they spell, or where they go wrong
abbrev pub IsProgramVerdict : List Lexeme → Result Parts ℕ → Type 0
IsProgramVerdict = IsVerdict (meaning language) program

-- The tokens spell a strategy file with these sections.
abbrev pub SpellsStrategy : List Lexeme → List Section → Type 0
SpellsStrategy = spells (meaning language) strategy

abbrev pub MayBeginStrategy : List Lexeme → Type 0
MayBeginStrategy = viable (meaning language) strategy

abbrev pub IsStrategyVerdict : List Lexeme → Result (List Section) ℕ → Type 0
IsStrategyVerdict = IsVerdict (meaning language) strategy
