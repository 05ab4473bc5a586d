use Rattle.og_frac.proofs.TermSums.{total_over}
use Rattle.og_frac.proofs.laws.totals.Goals as goal

pub returns : goal.returns
returns c = record { over = total_over }
