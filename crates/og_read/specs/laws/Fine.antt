-- Both grammars are read by the next token alone.
use Rattle.std.specs.Prelude.{◌≡◌, true, refl}
use Rattle.og_grammar.specs.Rule.{same_terminal}
use Rattle.og_grammar.specs.Reading.{fine}
use Rattle.og_grammar.specs.Alone.{alone}
use Rattle.og_read.specs.Grammar.{name, quotation, main, names, cases, type_decl, types, key, keys, columns, outcome, row, rows, rows_inside, table, empty_field, decision, operation, output, payment, line, lines, head, foot, parts, block, title, game, choice, section, strategy}

pub game_fine : fine alone.tables game ≡ true
unfolding same_terminal name quotation main names cases type_decl types key keys columns outcome row rows rows_inside table empty_field decision operation output payment line lines head foot parts block title game
game_fine = refl

pub strategy_fine : fine alone.tables strategy ≡ true
unfolding same_terminal name quotation choice section strategy
strategy_fine = refl
