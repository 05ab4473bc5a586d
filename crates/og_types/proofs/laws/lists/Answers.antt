use Rattle.og_types.specs.Ty.{fits, holds}
use Rattle.og_types.proofs.Pointwise.{pointwise_length}
use Rattle.og_types.proofs.ListLaws.{lists_itself, lists_along, lists_both_ways, lists_pass, joins_fit, joins_least, joins_lengths, joins_bounds}
use Rattle.og_types.proofs.laws.lists.Goals as goal

pub returns-clause-reflexive : goal.returns-clause-reflexive
returns-clause-reflexive c = lists_itself

pub returns-clause-transitive : goal.returns-clause-transitive
returns-clause-transitive c = lists_along

pub returns-clause-holds : goal.returns-clause-holds
returns-clause-holds c = lists_pass

pub returns-clause-fits_both : goal.returns-clause-fits_both
returns-clause-fits_both c = joins_fit

pub returns-clause-least : goal.returns-clause-least
returns-clause-least c = joins_least

pub returns-clause-fitting_lengths : goal.returns-clause-fitting_lengths
returns-clause-fitting_lengths c = pointwise_length fits

pub returns-clause-holding_lengths : goal.returns-clause-holding_lengths
returns-clause-holding_lengths c = pointwise_length holds

pub returns-clause-joined_lengths : goal.returns-clause-joined_lengths
returns-clause-joined_lengths c = joins_lengths

pub returns-clause-antisymmetric : goal.returns-clause-antisymmetric
returns-clause-antisymmetric c = lists_both_ways

pub returns-clause-bounds : goal.returns-clause-bounds
returns-clause-bounds c = joins_bounds
