use Rattle.std.proofs.Common.{length}
use Rattle.og_parse.proofs.inner.+par_onto.Given as goal

abbrev pub decreases-par_onto : goal.decreases-par_onto
decreases-par_onto l = length l.others
