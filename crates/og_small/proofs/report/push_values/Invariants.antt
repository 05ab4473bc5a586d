use Rattle.std.proofs.Common.{◌≡◌, ◌++◌, take}
use Rattle.std.specs.Prelude.{flat_map}
use Rattle.og_small.specs.Meaning.{agents}
use Rattle.og_small.specs.Report.{value_line}
use Rattle.og_small.proofs.report.push_values.Given as goal

abbrev pub invariant-lines : goal.invariant-lines
invariant-lines l = l.out ≡ l.initial.out ++ flat_map (value_line l.game l.choices) (agents (take l.i l.lines))
