use Rattle.og_grammar.specs.Reading.{read}
use Rattle.og_read.specs.Grammar.{reads, names, name}
use Rattle.og_read.proofs.lexemes.names.Goals as goal

pub returns : goal.returns
unfolding names
returns c = c.separated.ensures (read reads name) (λ alloc old new r is. is.1)
