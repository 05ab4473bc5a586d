use Rattle.og_lex.proofs.Strip.{stripped}
use Rattle.og_lex.proofs.front.strip.Goals as goal

pub returns-clause-cases : goal.returns-clause-cases
returns-clause-cases c = stripped c.args.front.now c.args.text.now c.strip_prefix.result c.requires c.utf8.text c.strip_prefix.ensures.cases
