use Rattle.std.proofs.Common.{rules}
use Rattle.og_grammar.specs.Reading.{read}
use Rattle.og_language.specs.Language.{in_room}
use Rattle.og_language.specs.Grammar.{others_then, next_then}
use Rattle.og_parse.proofs.inner.Inner.others_then.Goals as goal

pub returns : goal.returns
unfolding others_then next_then
returns g c = c.many.ensures (read (in_room c.args.self.now.room) (next_then c.args.self.now.branches)) (λ alloc old new r is. search rules)
