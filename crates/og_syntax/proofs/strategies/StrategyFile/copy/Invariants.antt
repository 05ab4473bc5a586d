use Rattle.std.proofs.Common.{◌≡◌, take}
use Rattle.og_syntax.proofs.strategies.StrategyFile.copy.Given as goal

abbrev pub invariant-sections : goal.invariant-sections
invariant-sections l = l.sections ≡ take l.section-index l.self.sections
