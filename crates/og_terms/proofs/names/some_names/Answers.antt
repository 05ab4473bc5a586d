use Rattle.og_grammar.specs.Reading.{read}
use Rattle.og_language.specs.Language.{in_room}
use Rattle.og_language.specs.Grammar.{some_names, placed_name}
use Rattle.og_terms.proofs.names.some_names.Goals as goal

pub returns : goal.returns
unfolding some_names
returns c = c.separated.ensures (read (in_room c.args.room) placed_name) (λ alloc old new r is. is.1)
