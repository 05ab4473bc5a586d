use Rattle.std.proofs.Common.{◌≡◌, map, drop}
use Rattle.std.specs.List.{list_all}
use Rattle.og_game.specs.Levels.{arm_with}
use Rattle.og_game.specs.Wired.{ports_of, has_ports}
use Rattle.og_game.proofs.branch.have_ports.Given as goal

abbrev pub invariant-arms : goal.invariant-arms
invariant-arms l =
    list_all (λ arm. has_ports l.ports arm.game) (map (arm_with ports_of) (drop l.arm-index l.arms))
    ≡ list_all (λ arm. has_ports l.ports arm.game) (map (arm_with ports_of) l.arms)
