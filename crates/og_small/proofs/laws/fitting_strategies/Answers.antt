use Rattle.og_small.proofs.AcceptedLemmas.{Decides-fits}
use Rattle.og_small.proofs.laws.fitting_strategies.Goals as goal

pub returns : goal.returns
returns c g sections = Decides-fits g sections
