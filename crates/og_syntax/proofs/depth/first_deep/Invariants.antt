use Rattle.og_syntax.proofs.Walks.{Come}
use Rattle.og_syntax.proofs.depth.first_deep.Given as goal

abbrev pub invariant-tokens : goal.invariant-tokens
invariant-tokens l = Come l.tokens l.at l.depth l.counts
