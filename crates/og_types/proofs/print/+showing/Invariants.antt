use Rattle.std.proofs.Common.{◌≡◌, ◌++◌, take, map}
use Rattle.og_types.specs.Names.{text_of, with_commas}
use Rattle.og_types.proofs.print.+showing.Given as goal

abbrev pub invariant-write_parts-parts : goal.invariant-write_parts-parts
invariant-write_parts-parts l = l.out ≡ l.initial.out ++ with_commas (map (text_of l.enums) (take l.at l.parts))
