-- What the reader of a whole text answers: the value that its tokens spell, or the first token at fault. At a fault of
-- both kinds at one token, the grammar's comes first.
use Rattle.std.specs.Prelude.{◌≡◌, ℕ, suc, List, length, take, Option, None, Some, Result, Ok, Err}
use Rattle.og_lex.specs.declared.token.Token.{Token}
use Rattle.og_grammar.specs.Lexeme.{lexemes_of}
use Rattle.og_grammar.specs.Rule.{Rule, spells, viable}
use Rattle.og_grammar.specs.Levels.{meaning}
use Rattle.og_grammar.specs.Laws.{IsFaultAt}
use Rattle.og_syntax.specs.Deep.{IsDeep, NoneDeep, NoneDeepBefore}
use Rattle.og_syntax.specs.declared.declarations.Program.{Program}
use Rattle.og_syntax.specs.declared.strategies.StrategyFile.{StrategyFile}
use Rattle.og_language.specs.Symbols.{symbols}
use Rattle.og_language.specs.Language.{language}
use Rattle.og_language.specs.Grammar.{program, strategy}
use Rattle.og_parse.specs.declared.faults.ParseFault.{ParseFault}
use Rattle.og_parse.specs.declared.faults.ParseFault.TheVariants as faults

-- They are spelled for the value, and none is too deep.
abbrev pub IsParsed : {A : Type 0} → Rule symbols A → List ℕ → List Token → A → Type 0
IsParsed rule text tokens a =
    spells (meaning language) rule (lexemes_of text tokens) a × NoneDeep tokens

-- The grammar's fault is at one token, and none before it is too deep; or one is the first that is too deep, and those
-- through it may begin what is spelled.
abbrev pub IsAtFault : {A : Type 0} → Rule symbols A → List ℕ → List Token → ParseFault → Type 0
IsAtFault rule text tokens (faults.Syntax k) =
    IsFaultAt (meaning language) rule (lexemes_of text tokens) k × NoneDeepBefore tokens k
IsAtFault rule text tokens (faults.Deep k) =
    IsDeep tokens k × NoneDeepBefore tokens k
    × viable (meaning language) rule (take (suc k) (lexemes_of text tokens))
IsAtFault rule text tokens faults.Memory = Unit {0}

-- what the reader of programs answers to the tokens of a text
abbrev pub ParsesProgram : List ℕ → List Token → Result Program ParseFault → Type 0
ParsesProgram text tokens (Ok p) = (p.at ≡ length text) × IsParsed program text tokens (p.version, p.decls)
ParsesProgram text tokens (Err fault) = IsAtFault program text tokens fault

-- what the reader of strategy files answers likewise
abbrev pub ParsesStrategy : List ℕ → List Token → Result StrategyFile ParseFault → Type 0
ParsesStrategy text tokens (Ok file) = (file.at ≡ length text) × IsParsed strategy text tokens file.sections
ParsesStrategy text tokens (Err fault) = IsAtFault strategy text tokens fault

-- the tokens through that one, or all
abbrev pub through : Option ℕ → List Token → List Token
through None tokens = tokens
through (Some k) tokens = take (suc k) tokens
