use Rattle.og_lex.proofs.Outcomes.{tokens-lexed, tokens-some}
use Rattle.og_lex.proofs.laws.some_lexing.Goals as goal

pub returns-clause-lexed : goal.returns-clause-lexed
returns-clause-lexed c = tokens-lexed

pub returns-clause-read : goal.returns-clause-read
returns-clause-read c = tokens-some
