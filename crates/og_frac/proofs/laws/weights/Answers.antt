use Rattle.og_frac.proofs.Weights.{value_same, absolute_same, common_same}
use Rattle.og_frac.proofs.laws.weights.Goals as goal

pub returns-clause-value : goal.returns-clause-value
returns-clause-value c = value_same

pub returns-clause-sizes : goal.returns-clause-sizes
returns-clause-sizes c = absolute_same

pub returns-clause-denominator : goal.returns-clause-denominator
returns-clause-denominator c = common_same
