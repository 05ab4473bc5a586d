use Rattle.std.proofs.Common.{length}
use Rattle.og_parse.proofs.inner.+seq_onto.Given as goal

abbrev pub decreases-seq_onto : goal.decreases-seq_onto
decreases-seq_onto l = length l.others
