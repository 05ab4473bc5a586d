use Rattle.og_reread.proofs.ReadBack.{some_strategy}
use Rattle.og_reread.proofs.laws.strategies_of_texts.Goals as goal

pub returns : goal.returns
returns c = some_strategy
