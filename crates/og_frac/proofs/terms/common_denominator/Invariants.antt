use Rattle.std.proofs.Common.{take}
use Rattle.og_frac.specs.Terms.{common_denominator, AllFracs, IsBelowLimit}
use Rattle.og_frac.proofs.terms.common_denominator.Given as goal

abbrev pub invariant-terms : goal.invariant-terms
invariant-terms l = record {
  fractions : AllFracs (take l.term-index l.terms);
  below : IsBelowLimit l.common (common_denominator (take l.term-index l.terms));
}
