use Rattle.std.proofs.Common.{rules}
use Rattle.og_grammar.specs.Reading.{read}
use Rattle.og_language.specs.Language.{in_room}
use Rattle.og_language.specs.Grammar.{inversions, inversion}
use Rattle.og_terms.proofs.inner.Inner.inversions.Goals as goal

pub returns : goal.returns
unfolding inversions
returns g c = c.separated.ensures (read (in_room c.args.self.now.room) inversion) (λ alloc old new r is. search rules)
