use Rattle.std.proofs.Common.{◌≡◌, ◌++◌, map, drop}
use Rattle.og_game.specs.Levels.{line_with}
use Rattle.og_game.specs.Scopes.{lines_variables}
use Rattle.og_game.specs.Wired.{ports_of}
use Rattle.og_game.proofs.block.with_lines.Given as goal

abbrev pub invariant-lines : goal.invariant-lines
invariant-lines l =
    l.all ++ lines_variables l.k (map (line_with ports_of) (drop l.k l.lines))
    ≡ l.fn.variables ++ lines_variables 0 (map (line_with ports_of) l.lines)
