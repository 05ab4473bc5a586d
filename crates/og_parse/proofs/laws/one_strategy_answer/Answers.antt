use Rattle.og_parse.proofs.OneAnswer.{one_strategy}
use Rattle.og_parse.proofs.laws.one_strategy_answer.Goals as goal

pub returns : goal.returns
returns c = one_strategy c.one_strategy_verdict.ensures c.viable_fronts.ensures.fronts
