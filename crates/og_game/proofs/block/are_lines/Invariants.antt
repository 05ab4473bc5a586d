use Rattle.std.proofs.Common.{◌≡◌, map, drop}
use Rattle.og_game.specs.Levels.{line_with}
use Rattle.og_game.specs.Wired.{ports_of, are_lines}
use Rattle.og_game.proofs.block.are_lines.Given as goal

abbrev pub invariant-lines : goal.invariant-lines
invariant-lines l =
    are_lines l.variables l.k l.next (map (line_with ports_of) (drop l.k l.lines))
    ≡ are_lines l.variables 0 l.n (map (line_with ports_of) l.lines)
