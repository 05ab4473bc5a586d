use Rattle.og_parse.specs.Parsed.{ParsesStrategy}
use Rattle.og_texts.proofs.OneText.{one_text}
use Rattle.og_texts.proofs.laws.one_strategy_text.Goals as goal

pub returns : goal.returns
returns c = one_text ParsesStrategy c.one_lexing.ensures c.one_strategy_answer.ensures
