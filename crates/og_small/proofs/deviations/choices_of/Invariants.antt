use Rattle.std.proofs.Common.{◌≡◌, take}
use Rattle.og_small.specs.Meaning.{choices_of}
use Rattle.og_small.proofs.deviations.choices_of.Given as goal

abbrev pub invariant-sections : goal.invariant-sections
invariant-sections l = l.made ≡ choices_of (take l.section-index l.sections)
