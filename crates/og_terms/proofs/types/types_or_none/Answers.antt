use Rattle.og_grammar.specs.Reading.{read}
use Rattle.og_language.specs.Language.{in_room}
use Rattle.og_language.specs.Grammar.{ty, types_or_none}
use Rattle.og_language.specs.Begins.{type_begins}
use Rattle.og_terms.proofs.types.types_or_none.Goals as goal

pub returns : goal.returns
unfolding type_begins types_or_none
returns c = c.commas_or_none.ensures (read (in_room c.args.room) ty) (λ alloc old new r is. is.1)
