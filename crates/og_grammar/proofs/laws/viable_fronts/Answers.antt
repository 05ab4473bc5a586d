use Rattle.og_grammar.proofs.Whole.{HasFronts-rule}
use Rattle.og_grammar.proofs.laws.viable_fronts.Goals as goal

pub returns : goal.returns
returns g c = HasFronts-rule g.L.Language.grammar g.L.Language.is_fine g.L.Language.rule
