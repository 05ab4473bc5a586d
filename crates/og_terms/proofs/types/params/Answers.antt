use Rattle.og_grammar.specs.Reading.{read}
use Rattle.og_language.specs.Language.{in_room}
use Rattle.og_language.specs.Grammar.{param, params, variable}
use Rattle.og_terms.proofs.types.params.Goals as goal

pub returns : goal.returns
unfolding params param variable
returns c = c.commas_or_none.ensures (read (in_room c.args.room) param) (λ alloc old new r is. is.1)
