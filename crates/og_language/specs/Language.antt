-- The language: the rule of each nonterminal.
use Rattle.og_grammar.specs.Rule.{Rule}
use Rattle.og_grammar.specs.Levels.{Grammar, readers}
use Rattle.og_grammar.specs.Reading.{Readers}
use Rattle.std.specs.Prelude.{ℕ}
use Rattle.og_language.specs.Symbols.{Symbol, TreeOf, symbols, type_of_values, value, expression, game}
use Rattle.og_language.specs.Begins.{tables}
use Rattle.og_language.specs.Grammar.{type_rule, value_rule, expression_rule, game_rule}

abbrev pub rule_of : (n : Symbol) → Rule symbols (TreeOf n)
rule_of type_of_values = type_rule
rule_of value = value_rule
rule_of expression = expression_rule
rule_of (game branches) = game_rule branches

abbrev pub language : Grammar symbols
language = record { rule = rule_of; tables = tables }

-- how it is read where nonterminals may stand in one another so many deep
abbrev pub in_room : ℕ → Readers symbols
in_room room = readers language room
