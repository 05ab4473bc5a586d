use Rattle.og_rows.proofs.Sums.{ranks_rise, weights_row, weighed_some}
use Rattle.og_rows.proofs.laws.tables.Goals as goal

pub returns-clause-ranks : goal.returns-clause-ranks
returns-clause-ranks c = ranks_rise

pub returns-clause-weights : goal.returns-clause-weights
returns-clause-weights c = weights_row

pub returns-clause-some : goal.returns-clause-some
returns-clause-some c = weighed_some
