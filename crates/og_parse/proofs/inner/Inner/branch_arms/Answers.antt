use Rattle.std.proofs.Common.{rules}
use Rattle.og_grammar.specs.Reading.{read}
use Rattle.og_language.specs.Language.{in_room}
use Rattle.og_language.specs.Grammar.{branch_arms, branch_arm}
use Rattle.og_parse.proofs.inner.Inner.branch_arms.Goals as goal

pub returns : goal.returns
unfolding branch_arms branch_arm
returns g c = c.many.ensures (read (in_room c.args.self.now.room) branch_arm) (λ alloc old new r is. search rules)
