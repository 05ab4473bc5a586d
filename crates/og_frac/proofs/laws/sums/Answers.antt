use Rattle.og_frac.proofs.Rationals.{sum_comm, sum_assoc}
use Rattle.og_frac.proofs.laws.sums.Goals as goal

pub returns-clause-commute : goal.returns-clause-commute
returns-clause-commute c = sum_comm

pub returns-clause-associate : goal.returns-clause-associate
returns-clause-associate c = sum_assoc
