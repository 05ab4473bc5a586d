use Rattle.std.proofs.Common.{◌≡◌, map, drop}
use Rattle.std.specs.Prelude.{◌==◌, not}
use Rattle.std.specs.List.{list_all}
use Rattle.og_game.proofs.branch.is_alone.Given as goal

abbrev pub invariant-arms : goal.invariant-arms
invariant-arms l =
    list_all (λ m. not (m == l.key)) (map (λ arm. arm.key) (drop l.arm-index l.arms))
    ≡ list_all (λ m. not (m == l.key)) (map (λ arm. arm.key) l.arms)
