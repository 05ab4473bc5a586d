use Rattle.std.proofs.Common.{◌≡◌, map, drop}
use Rattle.og_game.specs.Wired.{differ}
use Rattle.og_game.proofs.branch.do_differ.Given as goal

abbrev pub invariant-arms : goal.invariant-arms
invariant-arms l = differ (map (λ arm. arm.key) (drop l.at l.arms)) ≡ differ (map (λ arm. arm.key) l.arms)
