use Rattle.og_types.proofs.Forms.{fits_from_enum, fits_from_bool, fits_from_range, fits_from_number, fits_from_tuple}
use Rattle.og_types.proofs.laws.types_fitted.Goals as goal

pub returns-clause-enums : goal.returns-clause-enums
returns-clause-enums c = fits_from_enum

pub returns-clause-bools : goal.returns-clause-bools
returns-clause-bools c = fits_from_bool

pub returns-clause-ranges : goal.returns-clause-ranges
returns-clause-ranges c = fits_from_range

pub returns-clause-numbers : goal.returns-clause-numbers
returns-clause-numbers c = fits_from_number

pub returns-clause-tuples : goal.returns-clause-tuples
returns-clause-tuples c = fits_from_tuple
