use Rattle.og_frac.proofs.TermSums.{value_reordered, absolute_reordered, value_split}
use Rattle.og_frac.proofs.laws.sums_over.Goals as goal

pub returns-clause-reordered : goal.returns-clause-reordered
returns-clause-reordered c = value_reordered

pub returns-clause-sizes_reordered : goal.returns-clause-sizes_reordered
returns-clause-sizes_reordered c = absolute_reordered

pub returns-clause-split : goal.returns-clause-split
returns-clause-split c = value_split
