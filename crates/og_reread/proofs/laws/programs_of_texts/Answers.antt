use Rattle.og_reread.proofs.ReadBack.{some_program}
use Rattle.og_reread.proofs.laws.programs_of_texts.Goals as goal

pub returns : goal.returns
returns c = some_program
