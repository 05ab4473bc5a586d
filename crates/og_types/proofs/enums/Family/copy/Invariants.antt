use Rattle.std.proofs.Common.{◌≡◌, take}
use Rattle.og_types.proofs.enums.Family.copy.Given as goal

abbrev pub invariant-cases : goal.invariant-cases
invariant-cases l = l.cases ≡ take l.case-index l.self.cases
