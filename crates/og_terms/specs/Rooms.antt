-- What the readers of this language promise.
use Rattle.std.specs.Prelude.{ℕ, List, Result}
use Rattle.og_grammar.specs.Lexeme.{Lexeme}
use Rattle.og_grammar.specs.declared.fault.Fault.{Fault}
use Rattle.og_grammar.specs.Rule.{Rule}
use Rattle.og_grammar.specs.Reads as grammar
use Rattle.og_language.specs.Symbols.{symbols}
use Rattle.og_language.specs.Language.{in_room}

-- a function that reads the rule where nonterminals may stand in one another so many deep
abbrev pub Reads : {A : Type 0} → ℕ → Rule symbols A → List Lexeme → Result A Fault → List Lexeme → Type 0
Reads room rule = grammar.Reads (in_room room) rule
