use Rattle.og_types.proofs.TyLevels.{bounds_fit_enum, bounds_fit_bool, bounds_fit_range, bounds_fit_number, bounds_fit_tuple}
use Rattle.og_types.proofs.laws.forms_of_bounds.Goals as goal

pub returns-clause-enums : goal.returns-clause-enums
returns-clause-enums c = bounds_fit_enum

pub returns-clause-bools : goal.returns-clause-bools
returns-clause-bools c = bounds_fit_bool

pub returns-clause-ranges : goal.returns-clause-ranges
returns-clause-ranges c = bounds_fit_range

pub returns-clause-numbers : goal.returns-clause-numbers
returns-clause-numbers c = bounds_fit_number

pub returns-clause-tuples : goal.returns-clause-tuples
returns-clause-tuples c = bounds_fit_tuple
