use Rattle.og_types.proofs.Forms.{fits_into_enum, fits_into_bool, fits_into_range, fits_into_number, fits_into_tuple}
use Rattle.og_types.proofs.laws.types_that_fit.Goals as goal

pub returns-clause-enums : goal.returns-clause-enums
returns-clause-enums c = fits_into_enum

pub returns-clause-bools : goal.returns-clause-bools
returns-clause-bools c = fits_into_bool

pub returns-clause-ranges : goal.returns-clause-ranges
returns-clause-ranges c = fits_into_range

pub returns-clause-numbers : goal.returns-clause-numbers
returns-clause-numbers c = fits_into_number

pub returns-clause-tuples : goal.returns-clause-tuples
returns-clause-tuples c = fits_into_tuple
