use Rattle.og_grammar.proofs.Whole.{IsSingle-rule}
use Rattle.og_grammar.proofs.laws.single_value.Goals as goal

pub returns : goal.returns
returns g c = IsSingle-rule g.L.Language.grammar g.L.Language.is_fine g.L.Language.rule g.L.Language.is_led
