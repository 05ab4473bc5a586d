use Rattle.std.proofs.Common.{◌≡◌, take}
use Rattle.og_syntax.proofs.values.+value_copies.Given as goal

abbrev pub invariant-copy_values-values : goal.invariant-copy_values-values
invariant-copy_values-values l = l.all ≡ take l.value-index l.values
