use Rattle.og_tool.proofs.OneAnswerToWords.{one_to_words}
use Rattle.og_tool.proofs.laws.one_answer_to_words.Goals as goal

pub returns : goal.returns
returns c blocks = one_to_words blocks (c.one_answer.ensures blocks)
