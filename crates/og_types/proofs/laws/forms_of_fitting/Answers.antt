use Rattle.og_types.proofs.Forms.{fits_enums, fits_bool, fits_ranges, fits_range_number, fits_number}
use Rattle.og_types.proofs.TyLevels.{fits_tuples}
use Rattle.og_types.proofs.laws.forms_of_fitting.Goals as goal

pub returns-clause-enums : goal.returns-clause-enums
returns-clause-enums c = fits_enums

pub returns-clause-bools : goal.returns-clause-bools
returns-clause-bools c = fits_bool

pub returns-clause-ranges : goal.returns-clause-ranges
returns-clause-ranges c = fits_ranges

pub returns-clause-range_number : goal.returns-clause-range_number
returns-clause-range_number c = fits_range_number

pub returns-clause-numbers : goal.returns-clause-numbers
returns-clause-numbers c = fits_number

pub returns-clause-tuples : goal.returns-clause-tuples
returns-clause-tuples c = fits_tuples
