use Rattle.og_grammar.specs.Reading.{read}
use Rattle.og_read.specs.Grammar.{reads, keys, key}
use Rattle.og_read.proofs.tables.keys.Goals as goal

pub returns : goal.returns
unfolding keys
returns c = c.separated.ensures (read reads key) (λ alloc old new r is. is.1)
