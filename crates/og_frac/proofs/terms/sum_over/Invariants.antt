use Rattle.std.proofs.Common.{◌≡◌, ◌+◌, ◌≤◌, drop}
use Rattle.std.specs.Prelude.{◌+ℤ◌, unsigned_abs}
use Rattle.og_frac.specs.Terms.{absolute_over, value_over}
use Rattle.og_frac.proofs.terms.sum_over.Given as goal

abbrev pub invariant-terms : goal.invariant-terms
invariant-terms l = record {
  absolute_left : l.absolute + absolute_over l.common (drop l.term-index l.terms) ≡ absolute_over l.common l.terms;
  value_left : l.value +ℤ value_over l.common (drop l.term-index l.terms) ≡ value_over l.common l.terms;
  inside : unsigned_abs l.value ≤ l.absolute;
  within : l.absolute ≤ l.room;
}
