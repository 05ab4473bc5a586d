use Rattle.og_types.proofs.ValueLevels.{text_of_case, text_of_flag, text_of_number, text_of_tuple}
use Rattle.og_types.proofs.laws.forms_of_text.Goals as goal

pub returns-clause-cases : goal.returns-clause-cases
returns-clause-cases c = text_of_case

pub returns-clause-flags : goal.returns-clause-flags
returns-clause-flags c = text_of_flag

pub returns-clause-numbers : goal.returns-clause-numbers
returns-clause-numbers c = text_of_number

pub returns-clause-tuples : goal.returns-clause-tuples
returns-clause-tuples c = text_of_tuple
