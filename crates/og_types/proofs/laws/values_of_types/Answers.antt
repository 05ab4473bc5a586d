use Rattle.og_types.proofs.Forms.{value_of_enum, value_of_bool, value_of_range, value_of_number, value_of_tuple}
use Rattle.og_types.proofs.laws.values_of_types.Goals as goal

pub returns-clause-enums : goal.returns-clause-enums
returns-clause-enums c = value_of_enum

pub returns-clause-bools : goal.returns-clause-bools
returns-clause-bools c = value_of_bool

pub returns-clause-ranges : goal.returns-clause-ranges
returns-clause-ranges c = value_of_range

pub returns-clause-numbers : goal.returns-clause-numbers
returns-clause-numbers c = value_of_number

pub returns-clause-tuples : goal.returns-clause-tuples
returns-clause-tuples c = value_of_tuple
