use Rattle.og_grammar.specs.Reading.{read}
use Rattle.og_language.specs.Language.{in_room}
use Rattle.og_language.specs.Grammar.{ty, type_parts}
use Rattle.og_terms.proofs.types.+type_readers.Goals as goal

pub type_parts-returns : goal.type_parts-returns
unfolding type_parts
type_parts-returns t c = c.two_or_more.ensures (read (in_room c.args.room) ty) (λ alloc old new r is. is.1)
