use Rattle.std.proofs.Common.{◌≡◌, map, drop}
use Rattle.std.specs.Prelude.{nat_lt}
use Rattle.std.specs.List.{list_all}
use Rattle.og_game.proofs.branch.are_below.Given as goal

abbrev pub invariant-arms : goal.invariant-arms
invariant-arms l =
    list_all (λ k. nat_lt k l.count) (map (λ arm. arm.key) (drop l.arm-index l.arms))
    ≡ list_all (λ k. nat_lt k l.count) (map (λ arm. arm.key) l.arms)
