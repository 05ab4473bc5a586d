use Rattle.og_inlining.proofs.Sound.{expression_sound}
use Rattle.og_inlining.proofs.laws.soundness.Goals as goal

pub returns : goal.returns
returns c = expression_sound
