use Rattle.og_grammar.specs.Reading.{read}
use Rattle.og_read.specs.Grammar.{reads, types, type_decl}
use Rattle.og_read.proofs.games.types.Goals as goal

pub returns : goal.returns
unfolding types type_decl
returns c = c.many.ensures (read reads type_decl) (λ alloc old new r is. is.1)
