use Rattle.og_tool.proofs.OneTree.{same_strategy}
use Rattle.og_tool.proofs.read.one_small_strategy.Goals as goal

pub returns : goal.returns
returns c text = same_strategy c.one_lexing.ensures text c.one_strategy.ensures
