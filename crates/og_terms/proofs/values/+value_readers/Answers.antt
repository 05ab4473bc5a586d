use Rattle.og_grammar.specs.Reading.{read}
use Rattle.og_language.specs.Language.{in_room}
use Rattle.og_language.specs.Grammar.{value_part, value_parts}
use Rattle.og_terms.proofs.values.+value_readers.Goals as goal

pub value_parts-returns : goal.value_parts-returns
unfolding value_parts
value_parts-returns t c = c.two_or_more.ensures (read (in_room c.args.room) value_part) (λ alloc old new r is. is.1)
