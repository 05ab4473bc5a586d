use Rattle.std.proofs.Common.{rules}
use Rattle.og_grammar.specs.Reading.{read}
use Rattle.og_language.specs.Language.{in_room}
use Rattle.og_language.specs.Grammar.{path, component}
use Rattle.og_terms.proofs.inner.Inner.path.Goals as goal

pub returns : goal.returns
unfolding path component
returns g c = c.many.ensures (read (in_room c.args.self.now.room) component) (λ alloc old new r is. search rules)
