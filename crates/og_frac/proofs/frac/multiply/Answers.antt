use Rattle.std.proofs.Common.{◌<◌, arith, sym, subst, ◌^◌}
use Rattle.std.specs.Int.{w128}
use Rattle.std.specs.Prelude.{unsigned_abs, ◌*ℤ◌, FitsSigned}
use Rattle.std.proofs.lemmas.Int.{to_z-of_z, fits_signed_from_abs}
use Rattle.og_frac.proofs.LowestTerms.{unsigned_abs_times}
use Rattle.og_frac.proofs.frac.multiply.Goals as goal

pub returns-clause-value : goal.returns-clause-value
returns-clause-value c =
    let small = unsigned_abs_times c.args.first c.args.second c.requires.first c.requires.second in
    let fits : FitsSigned w128 (c.args.first *ℤ c.args.second) = fits_signed_from_abs w128 _ (omega arith) in
    let first = to_z-of_z w128 c.args.first c.ranges.first in
    let second = to_z-of_z w128 c.args.second c.ranges.second in
    simp (first, second) (to_z-of_z w128 _ fits)

pub returns-clause-small : goal.returns-clause-small
returns-clause-small c =
    subst (λ z. unsigned_abs z < 2 ^ 126) (sym (returns-clause-value c)) (unsigned_abs_times c.args.first c.args.second c.requires.first c.requires.second)
