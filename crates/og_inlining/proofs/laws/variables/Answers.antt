use Rattle.og_inlining.proofs.Inside.{tree_passes}
use Rattle.og_inlining.proofs.laws.variables.Goals as goal

pub returns : goal.returns
returns c = tree_passes
