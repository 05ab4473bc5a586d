use Rattle.std.proofs.Common.{◌≡◌, take}
use Rattle.std.specs.Prelude.{flat_map}
use Rattle.og_canonical.specs.Strategies.{section_text}
use Rattle.og_canonical.proofs.strategies.print_strategy.Given as goal

abbrev pub invariant-sections : goal.invariant-sections
invariant-sections l = l.out ≡ flat_map section_text (take l.section-index l.file.sections)
