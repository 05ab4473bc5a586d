use Rattle.og_grammar.proofs.Whole.{IsComplete-rule}
use Rattle.og_grammar.proofs.laws.whole_reading.Goals as goal

pub returns : goal.returns
returns g c = IsComplete-rule g.L.Language.grammar g.L.Language.is_fine g.L.Language.rule g.L.Language.is_led
