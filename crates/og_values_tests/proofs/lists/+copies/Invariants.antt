use Rattle.std.proofs.Common.{◌≡◌, take}
use Rattle.og_values_tests.proofs.lists.+copies.Given as goal

abbrev pub invariant-copy_all-parts : goal.invariant-copy_all-parts
invariant-copy_all-parts l = l.all ≡ take l.part-index l.parts
