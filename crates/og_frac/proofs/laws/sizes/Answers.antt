use Rattle.og_frac.proofs.TermSizes.{value_size, absolute_picked, value_joined, absolute_joined, value_scaled, absolute_scaled, common_scaled}
use Rattle.og_frac.proofs.laws.sizes.Goals as goal

pub returns-clause-value : goal.returns-clause-value
returns-clause-value c = value_size

pub returns-clause-picked : goal.returns-clause-picked
returns-clause-picked c = absolute_picked

pub returns-clause-joined : goal.returns-clause-joined
returns-clause-joined c = value_joined

pub returns-clause-sizes_joined : goal.returns-clause-sizes_joined
returns-clause-sizes_joined c = absolute_joined

pub returns-clause-scaled : goal.returns-clause-scaled
returns-clause-scaled c = value_scaled

pub returns-clause-sizes_scaled : goal.returns-clause-sizes_scaled
returns-clause-sizes_scaled c = absolute_scaled

pub returns-clause-denominator_scaled : goal.returns-clause-denominator_scaled
returns-clause-denominator_scaled c = common_scaled
