use Rattle.og_parse.specs.Parsed.{ParsesProgram}
use Rattle.og_texts.proofs.OneText.{one_text}
use Rattle.og_texts.proofs.laws.one_program_text.Goals as goal

pub returns : goal.returns
returns c = one_text ParsesProgram c.one_lexing.ensures c.one_program_answer.ensures
