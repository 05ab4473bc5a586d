use Rattle.std.proofs.Common.{nat_eq}
use Rattle.std.specs.Cmp.Lexicographic.{pointwise}
use Rattle.og_native.specs.Block.{names_of}
use Rattle.og_native.proofs.NamesLaws.{Fails}
use Rattle.og_native.proofs.library.place.Given as goal

abbrev pub invariant-places : goal.invariant-places
invariant-places g l = Fails (λ other. pointwise nat_eq other l.name) (names_of l.blocks) l.at
