use Rattle.og_lex.proofs.OneLexing.{one_lexing}
use Rattle.og_lex.proofs.laws.one_lexing.Goals as goal

pub returns : goal.returns
returns c = one_lexing
