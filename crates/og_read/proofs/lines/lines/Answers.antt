use Rattle.og_grammar.specs.Reading.{read}
use Rattle.og_read.specs.Grammar.{reads, lines, line, empty_field, operation}
use Rattle.og_read.proofs.lines.lines.Goals as goal

pub returns : goal.returns
unfolding lines line empty_field operation
returns c = c.many.ensures (read reads line) (λ alloc old new r is. is.1)
