use Rattle.std.proofs.Common.{rules}
use Rattle.og_grammar.specs.Reading.{read}
use Rattle.og_language.specs.Language.{in_room}
use Rattle.og_language.specs.Grammar.{product_parts, product_part}
use Rattle.og_terms.proofs.inner.Inner.product_parts.Goals as goal

pub returns : goal.returns
unfolding product_parts product_part
returns g c = c.many.ensures (read (in_room c.args.self.now.room) product_part) (λ alloc old new r is. search rules)
