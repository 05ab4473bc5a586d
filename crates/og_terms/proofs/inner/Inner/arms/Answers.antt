use Rattle.std.proofs.Common.{rules}
use Rattle.og_grammar.specs.Reading.{read}
use Rattle.og_language.specs.Language.{in_room}
use Rattle.og_language.specs.Grammar.{arms, arm}
use Rattle.og_terms.proofs.inner.Inner.arms.Goals as goal

pub returns : goal.returns
unfolding arms
returns g c = c.separated.ensures (read (in_room c.args.self.now.room) arm) (λ alloc old new r is. search rules)
