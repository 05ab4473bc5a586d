use Rattle.og_frac.proofs.TermSums.{common_multiple, common_least, common_reordered, common_split}
use Rattle.og_frac.proofs.laws.common_denominators.Goals as goal

pub returns-clause-multiple : goal.returns-clause-multiple
returns-clause-multiple c = common_multiple

pub returns-clause-least : goal.returns-clause-least
returns-clause-least c = common_least

pub returns-clause-reordered : goal.returns-clause-reordered
returns-clause-reordered c = common_reordered

pub returns-clause-split : goal.returns-clause-split
returns-clause-split c = common_split
