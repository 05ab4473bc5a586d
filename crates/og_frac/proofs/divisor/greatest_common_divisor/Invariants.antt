use Rattle.std.proofs.Common.{◌≡◌}
use Rattle.og_frac.specs.Fraction.{greatest_common_divisor}
use Rattle.og_frac.proofs.divisor.greatest_common_divisor.Given as goal

abbrev pub invariant-steps : goal.invariant-steps
invariant-steps l = greatest_common_divisor l.kept l.left ≡ greatest_common_divisor l.fn.first l.fn.second

abbrev pub decreases-steps : goal.decreases-steps
decreases-steps l = l.left
