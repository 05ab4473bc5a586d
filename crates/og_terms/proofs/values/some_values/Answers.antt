use Rattle.og_grammar.specs.Reading.{read}
use Rattle.og_language.specs.Language.{in_room}
use Rattle.og_language.specs.Grammar.{some_values, value_part}
use Rattle.og_terms.proofs.values.some_values.Goals as goal

pub returns : goal.returns
unfolding some_values
returns c = c.separated.ensures (read (in_room c.args.room) value_part) (λ alloc old new r is. is.1)
