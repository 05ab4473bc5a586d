use Rattle.std.proofs.Common.{◌≡◌, take}
use Rattle.std.specs.Prelude.{flat_map}
use Rattle.std.specs.List.{enumerate_from}
use Rattle.og_small.specs.Meaning.{deviations_at}
use Rattle.og_small.proofs.deviations.find_deviations.Given as goal

abbrev pub invariant-lines : goal.invariant-lines
invariant-lines l = l.found ≡ flat_map (deviations_at l.game l.choices) (enumerate_from 1 (take l.i l.lines))
