use Rattle.og_tool.proofs.OneTree.{same_game}
use Rattle.og_tool.proofs.read.one_small_game.Goals as goal

pub returns : goal.returns
returns c text = same_game c.one_lexing.ensures text c.one_game.ensures
