use Rattle.std.proofs.Common.{◌≡◌, ◌++◌, take}
use Rattle.std.specs.Prelude.{flat_map}
use Rattle.og_small.specs.Meaning.{deviation}
use Rattle.og_small.proofs.deviations.add_deviations.Given as goal

abbrev pub invariant-cases : goal.invariant-cases
invariant-cases l = l.found ≡ l.initial.found ++ flat_map (deviation l.lines l.choices l.number l.line) (take l.action-index l.cases)
