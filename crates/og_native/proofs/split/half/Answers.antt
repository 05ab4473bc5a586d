use Rattle.std.proofs.Common.{arith, subst}
use Rattle.og_native.specs.Answered.{Answers}
use Rattle.og_native.proofs.Shares.{half_fits}
use Rattle.og_native.proofs.split.half.Goals as goal

pub returns : goal.returns
returns c = subst (λ o. Answers o c.passed.result) half_fits (c.passed.ensures _ (c.new.ensures.exact (omega arith)))
