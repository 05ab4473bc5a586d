use Rattle.og_grammar.proofs.SameTerminals.{one_terminal, equal_terminals}
use Rattle.og_grammar.proofs.laws.same_terminals.Goals as goal

pub returns : goal.returns
returns c k l = (one_terminal k l, equal_terminals k l)
