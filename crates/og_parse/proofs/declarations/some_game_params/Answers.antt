use Rattle.og_grammar.specs.Reading.{read}
use Rattle.og_language.specs.Language.{in_room}
use Rattle.og_language.specs.Grammar.{some_game_params, game_param}
use Rattle.og_parse.proofs.declarations.some_game_params.Goals as goal

pub returns : goal.returns
unfolding some_game_params
returns c = c.separated.ensures (read (in_room c.args.room) game_param) (λ alloc old new r is. is.1)
