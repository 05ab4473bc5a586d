use Rattle.std.proofs.Common.{◌≡◌, drop, map}
use Rattle.og_typing.specs.Checked.{in_turn}
use Rattle.og_wires.specs.Games.{part_of, lines_walk, arm_walk}
use Rattle.og_wires.specs.Levels.{arm_with, line_with}
use Rattle.og_wires.specs.Sites.{site_of}
use Rattle.og_wires.proofs.games.+walking.Given as goal

abbrev pub invariant-walk_lines-lines : goal.invariant-walk_lines-lines
invariant-walk_lines-lines l =
    lines_walk (site_of l.site) l.level l.hidden l.k l.found (map (line_with part_of) (drop l.k l.lines))
    ≡ lines_walk (site_of l.site) l.level l.hidden 0 l.initial.found (map (line_with part_of) l.lines)

abbrev pub invariant-walk_arms-arms : goal.invariant-walk_arms-arms
invariant-walk_arms-arms l =
    in_turn (arm_walk (site_of l.site) l.level l.selector) l.found (map (arm_with part_of) (drop l.arm-index l.arms))
    ≡ in_turn (arm_walk (site_of l.site) l.level l.selector) l.initial.found (map (arm_with part_of) l.arms)
