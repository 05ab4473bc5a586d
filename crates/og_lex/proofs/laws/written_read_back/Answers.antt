use Rattle.og_lex.proofs.WrittenBack.{text_utf8, read_back, bytes_back}
use Rattle.og_lex.proofs.laws.written_read_back.Goals as goal

pub returns-clause-utf8 : goal.returns-clause-utf8
returns-clause-utf8 c = text_utf8

pub returns-clause-tokens : goal.returns-clause-tokens
returns-clause-tokens c = read_back

pub returns-clause-bytes : goal.returns-clause-bytes
returns-clause-bytes c = bytes_back
