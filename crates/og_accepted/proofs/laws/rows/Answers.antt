use Rattle.og_accepted.proofs.Weights.{weights_there}
use Rattle.og_accepted.proofs.Actions.{actions_allowed}
use Rattle.og_accepted.proofs.laws.rows.Goals as goal

pub returns-clause-drawn : goal.returns-clause-drawn
returns-clause-drawn c = weights_there

pub returns-clause-allowed : goal.returns-clause-allowed
returns-clause-allowed c = actions_allowed
