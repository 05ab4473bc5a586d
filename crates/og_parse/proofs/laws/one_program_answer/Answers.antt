use Rattle.og_parse.proofs.OneAnswer.{one_program}
use Rattle.og_parse.proofs.laws.one_program_answer.Goals as goal

pub returns : goal.returns
returns c = one_program c.one_program_verdict.ensures c.viable_fronts.ensures.fronts
