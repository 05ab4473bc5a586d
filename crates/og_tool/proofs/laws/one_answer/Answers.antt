use Rattle.og_tool.proofs.OneAnswer.{one_answer_of}
use Rattle.og_tool.proofs.laws.one_answer.Goals as goal

pub returns : goal.returns
returns c blocks game strategy one other =
    one_answer_of c.one_small_game.ensures c.one_small_strategy.ensures c.one_program_text.ensures c.one_strategy_text.ensures
    blocks game strategy one other
