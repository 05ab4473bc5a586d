use Rattle.std.proofs.Common.{◌≡◌, drop, map}
use Rattle.og_wires.specs.Games.{part_of, lines_back}
use Rattle.og_wires.specs.Levels.{line_with}
use Rattle.og_wires.specs.Sites.{site_of}
use Rattle.og_wires.proofs.block.walk_lines_back.Given as goal

abbrev pub invariant-lines : goal.invariant-lines
invariant-lines l =
    lines_back (site_of l.site) l.variables l.wanted l.k l.size (map (line_with part_of) (drop l.k l.lines))
    ≡ lines_back (site_of l.site) l.variables l.wanted 0 l.initial.size (map (line_with part_of) l.lines)
