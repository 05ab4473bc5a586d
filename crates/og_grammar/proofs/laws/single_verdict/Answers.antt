use Rattle.og_grammar.proofs.Verdict.{IsDecided-rule}
use Rattle.og_grammar.proofs.laws.single_verdict.Goals as goal

pub returns : goal.returns
returns g c = IsDecided-rule g.L.Language.grammar g.L.Language.is_fine g.L.Language.rule g.L.Language.is_led
