use Rattle.og_grammar.specs.Reading.{read}
use Rattle.og_language.specs.Language.{in_room}
use Rattle.og_language.specs.Grammar.{key, row, rows_or_none}
use Rattle.og_terms.proofs.values.rows_or_none.Goals as goal

pub returns : goal.returns
unfolding rows_or_none row key
returns c = c.many.ensures (read (in_room c.args.room) row) (λ alloc old new r is. is.1)
