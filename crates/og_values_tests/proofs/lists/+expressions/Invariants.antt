use Rattle.std.proofs.Common.{◌≡◌, take}
use Rattle.og_values_tests.proofs.lists.+expressions.Given as goal

abbrev pub invariant-copy_exprs-parts : goal.invariant-copy_exprs-parts
invariant-copy_exprs-parts l = l.all ≡ take l.part-index l.parts
