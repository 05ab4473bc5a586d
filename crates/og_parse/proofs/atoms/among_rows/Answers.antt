use Rattle.og_grammar.specs.Reading.{read}
use Rattle.og_language.specs.Language.{in_room}
use Rattle.og_language.specs.Grammar.{among_rows, among_row, key}
use Rattle.og_parse.proofs.atoms.among_rows.Goals as goal

pub returns : goal.returns
unfolding among_rows among_row key
returns c = c.many.ensures (read (in_room c.args.room) among_row) (λ alloc old new r is. is.1)
