use Rattle.std.proofs.Common.{◌≡◌, take}
use Rattle.og_types.proofs.enums.Enums.copy.Given as goal

abbrev pub invariant-families : goal.invariant-families
invariant-families l = l.families ≡ take l.family-index l.self.families
