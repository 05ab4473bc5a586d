use Rattle.og_grammar.specs.Reading.{read}
use Rattle.og_language.specs.Language.{in_room}
use Rattle.og_language.specs.Grammar.{value_part, values_or_none}
use Rattle.og_language.specs.Begins.{value_begins}
use Rattle.og_terms.proofs.values.values_or_none.Goals as goal

pub returns : goal.returns
unfolding value_begins values_or_none
returns c = c.commas_or_none.ensures (read (in_room c.args.room) value_part) (λ alloc old new r is. is.1)
