use Rattle.og_reread.proofs.ReadBack.{strategy_back}
use Rattle.og_reread.proofs.laws.strategies_read_back.Goals as goal

pub returns : goal.returns
returns c = strategy_back c.written_read_back.ensures.utf8 c.written_read_back.ensures.tokens c.written_read_back.ensures.bytes
