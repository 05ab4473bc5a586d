use Rattle.std.proofs.Common.{◌≡◌, ◌++◌, take}
use Rattle.std.specs.Prelude.{flat_map}
use Rattle.og_small.specs.Report.{deviation_line}
use Rattle.og_small.proofs.report.push_deviations.Given as goal

abbrev pub invariant-deviations : goal.invariant-deviations
invariant-deviations l = l.out ≡ l.initial.out ++ flat_map deviation_line (take l.one-index l.deviations)
