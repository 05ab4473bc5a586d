use Rattle.og_types.proofs.TyLevels.{is_finite_enum, is_finite_bool, is_finite_range, is_finite_number, is_finite_tuple}
use Rattle.og_types.proofs.laws.forms_of_finite_types.Goals as goal

pub returns-clause-enums : goal.returns-clause-enums
returns-clause-enums c = is_finite_enum

pub returns-clause-bools : goal.returns-clause-bools
returns-clause-bools c = is_finite_bool

pub returns-clause-ranges : goal.returns-clause-ranges
returns-clause-ranges c = is_finite_range

pub returns-clause-numbers : goal.returns-clause-numbers
returns-clause-numbers c = is_finite_number

pub returns-clause-tuples : goal.returns-clause-tuples
returns-clause-tuples c = is_finite_tuple
