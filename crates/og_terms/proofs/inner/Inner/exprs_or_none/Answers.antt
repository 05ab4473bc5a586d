use Rattle.std.proofs.Common.{rules}
use Rattle.og_grammar.specs.Reading.{read}
use Rattle.og_language.specs.Language.{in_room}
use Rattle.og_language.specs.Begins.{primary_begins, operand_begins, expression_begins}
use Rattle.og_language.specs.Grammar.{exprs_or_none, expr}
use Rattle.og_terms.proofs.inner.Inner.exprs_or_none.Goals as goal

pub returns : goal.returns
unfolding exprs_or_none primary_begins operand_begins expression_begins
returns g c = c.commas_or_none.ensures (read (in_room c.args.self.now.room) expr) (λ alloc old new r is. search rules)
