use Rattle.std.proofs.Common.{◌≡◌, ◌++◌, take}
use Rattle.og_canonical.specs.Values.{values_text}
use Rattle.og_canonical.proofs.values.+value_texts.Given as goal

abbrev pub invariant-write_values-values : goal.invariant-write_values-values
invariant-write_values-values l = l.out ≡ l.initial.out ++ values_text (take l.at l.values)
