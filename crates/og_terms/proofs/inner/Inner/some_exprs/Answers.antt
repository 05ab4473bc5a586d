use Rattle.std.proofs.Common.{rules}
use Rattle.og_grammar.specs.Reading.{read}
use Rattle.og_language.specs.Language.{in_room}
use Rattle.og_language.specs.Grammar.{some_exprs, expr}
use Rattle.og_terms.proofs.inner.Inner.some_exprs.Goals as goal

pub returns : goal.returns
unfolding some_exprs
returns g c = c.separated.ensures (read (in_room c.args.self.now.room) expr) (λ alloc old new r is. search rules)
