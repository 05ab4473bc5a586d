use Rattle.og_types.proofs.FitsLaws.{fits_itself, fits_along, fits_both_ways, fits_values}
use Rattle.og_types.proofs.laws.fitting.Goals as goal

pub returns-clause-reflexive : goal.returns-clause-reflexive
returns-clause-reflexive c = fits_itself

pub returns-clause-transitive : goal.returns-clause-transitive
returns-clause-transitive c = fits_along

pub returns-clause-antisymmetric : goal.returns-clause-antisymmetric
returns-clause-antisymmetric c = fits_both_ways

pub returns-clause-holds : goal.returns-clause-holds
returns-clause-holds c = fits_values
