use Rattle.og_grammar.specs.Reading.{read}
use Rattle.og_read.specs.Grammar.{reads, rows, row, outcome}
use Rattle.og_read.proofs.tables.rows.Goals as goal

pub returns : goal.returns
unfolding rows row outcome
returns c = c.many.ensures (read reads row) (λ alloc old new r is. is.1)
