use Rattle.og_grammar.specs.Reading.{read}
use Rattle.og_language.specs.Language.{in_room}
use Rattle.og_language.specs.Begins.{primary_begins, operand_begins, expression_begins}
use Rattle.og_language.specs.Grammar.{results, result}
use Rattle.og_terms.proofs.expressions.results.Goals as goal

pub returns : goal.returns
unfolding results result primary_begins operand_begins expression_begins
returns c = c.commas_or_none.ensures (read (in_room c.args.room) result) (λ alloc old new r is. is.1)
