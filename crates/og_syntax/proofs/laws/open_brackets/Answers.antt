use Rattle.og_syntax.proofs.Matched.{open_is_counted}
use Rattle.og_syntax.proofs.laws.open_brackets.Goals as goal

pub returns : goal.returns
returns c = open_is_counted
