use Rattle.og_types.proofs.Forms.{holds_enum, holds_bool, holds_range, holds_number}
use Rattle.og_types.proofs.TyLevels.{holds_tuples}
use Rattle.og_types.proofs.laws.forms_of_values.Goals as goal

pub returns-clause-enums : goal.returns-clause-enums
returns-clause-enums c = holds_enum

pub returns-clause-bools : goal.returns-clause-bools
returns-clause-bools c = holds_bool

pub returns-clause-ranges : goal.returns-clause-ranges
returns-clause-ranges c = holds_range

pub returns-clause-numbers : goal.returns-clause-numbers
returns-clause-numbers c = holds_number

pub returns-clause-tuples : goal.returns-clause-tuples
returns-clause-tuples c = holds_tuples
