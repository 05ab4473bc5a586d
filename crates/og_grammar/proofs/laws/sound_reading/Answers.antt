use Rattle.og_grammar.proofs.Whole.{IsSound-rule}
use Rattle.og_grammar.proofs.laws.sound_reading.Goals as goal

pub returns : goal.returns
returns g c = IsSound-rule g.L.Language.grammar g.L.Language.is_fine g.L.Language.rule
