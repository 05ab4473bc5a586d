use Rattle.og_grammar.proofs.Whole.{IsSingle-rule}
use Rattle.og_grammar.specs.Lexeme.{lexemes_of}
use Rattle.og_grammar.specs.Alone.{alone, alone_fine}
use Rattle.og_read.specs.Grammar.{game}
use Rattle.og_read.specs.laws.Fine.{game_fine}
use Rattle.og_read.proofs.laws.one_game.Goals as goal

pub returns : goal.returns
returns c text tokens = IsSingle-rule alone alone_fine game game_fine (lexemes_of text tokens)
