use Rattle.og_inlining.proofs.Kept.{tree_stays}
use Rattle.og_inlining.proofs.laws.extension.Goals as goal

pub returns : goal.returns
returns c = tree_stays
