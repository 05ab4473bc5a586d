use Rattle.std.proofs.Common.{◌≡◌, take}
use Rattle.std.specs.Prelude.{sum_by}
use Rattle.og_expr.specs.Counts.{capped}
use Rattle.og_game.specs.Counts.{decisions_in}
use Rattle.og_game.proofs.count.in_arms.Given as goal

abbrev pub invariant-arms : goal.invariant-arms
invariant-arms l = l.all ≡ capped (sum_by (λ arm. decisions_in arm.game) (take l.arm-index l.arms))
