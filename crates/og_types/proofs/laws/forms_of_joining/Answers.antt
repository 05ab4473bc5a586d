use Rattle.og_types.proofs.Forms.{join_enums, join_bool, join_ranges, join_range_number, join_number_range, join_number}
use Rattle.og_types.proofs.TyLevels.{join_tuples}
use Rattle.og_types.proofs.laws.forms_of_joining.Goals as goal

pub returns-clause-enums : goal.returns-clause-enums
returns-clause-enums c = join_enums

pub returns-clause-bools : goal.returns-clause-bools
returns-clause-bools c = join_bool

pub returns-clause-ranges : goal.returns-clause-ranges
returns-clause-ranges c = join_ranges

pub returns-clause-range_number : goal.returns-clause-range_number
returns-clause-range_number c = join_range_number

pub returns-clause-number_range : goal.returns-clause-number_range
returns-clause-number_range c = join_number_range

pub returns-clause-numbers : goal.returns-clause-numbers
returns-clause-numbers c = join_number

pub returns-clause-tuples : goal.returns-clause-tuples
returns-clause-tuples c = join_tuples
