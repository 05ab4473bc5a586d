use Rattle.og_grammar.specs.Reading.{read}
use Rattle.og_language.specs.Language.{in_room}
use Rattle.og_language.specs.Grammar.{entries, entry}
use Rattle.og_terms.proofs.values.entries.Goals as goal

pub returns : goal.returns
unfolding entries
returns c = c.separated.ensures (read (in_room c.args.room) entry) (λ alloc old new r is. is.1)
