use Rattle.og_grammar.proofs.EveryDepth.{spells_as_rules}
use Rattle.og_grammar.proofs.laws.nonterminals.Goals as goal

pub returns : goal.returns
returns g c = spells_as_rules g.L.Language.grammar g.L.Language.is_fine
