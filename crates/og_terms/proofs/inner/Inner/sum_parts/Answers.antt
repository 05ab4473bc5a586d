use Rattle.std.proofs.Common.{rules}
use Rattle.og_grammar.specs.Reading.{read}
use Rattle.og_language.specs.Language.{in_room}
use Rattle.og_language.specs.Grammar.{sum_parts, sum_part}
use Rattle.og_terms.proofs.inner.Inner.sum_parts.Goals as goal

pub returns : goal.returns
unfolding sum_parts sum_part
returns g c = c.many.ensures (read (in_room c.args.self.now.room) sum_part) (λ alloc old new r is. search rules)
