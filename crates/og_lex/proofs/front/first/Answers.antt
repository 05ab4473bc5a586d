use Rattle.std.proofs.lemmas.Str.{chars_past_char}
use Rattle.std.proofs.Common.{rules}
use Rattle.og_lex.proofs.front.first.Goals as goal

pub returns-clause-cases : goal.returns-clause-cases
returns-clause-cases c = chars_past_char c.args.text.now c.as_str.result.now c.in_ok-c.c c.utf8.text (search rules)
