use Rattle.og_grammar.proofs.Verdict.{IsExact-rule}
use Rattle.og_grammar.proofs.laws.exact_reading.Goals as goal

pub returns : goal.returns
returns g c = IsExact-rule g.L.Language.grammar g.L.Language.is_fine g.L.Language.rule g.L.Language.is_led
