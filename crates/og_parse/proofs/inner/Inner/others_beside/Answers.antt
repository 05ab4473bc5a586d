use Rattle.std.proofs.Common.{rules}
use Rattle.og_grammar.specs.Reading.{read}
use Rattle.og_language.specs.Language.{in_room}
use Rattle.og_language.specs.Grammar.{others_beside, next_beside}
use Rattle.og_parse.proofs.inner.Inner.others_beside.Goals as goal

pub returns : goal.returns
unfolding others_beside next_beside
returns g c = c.many.ensures (read (in_room c.args.self.now.room) (next_beside c.args.self.now.branches)) (λ alloc old new r is. search rules)
