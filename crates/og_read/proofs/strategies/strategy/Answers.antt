use Rattle.og_grammar.specs.Reading.{read}
use Rattle.og_read.specs.Grammar.{reads, strategy, section}
use Rattle.og_read.proofs.strategies.strategy.Goals as goal

pub returns : goal.returns
unfolding strategy section
returns c = c.many.ensures (read reads section) (λ alloc old new r is. is.1)
