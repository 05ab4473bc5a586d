use Rattle.std.proofs.Common.{◌≡◌, ◌++◌, take}
use Rattle.og_canonical.specs.Types.{names_text}
use Rattle.og_canonical.proofs.types.write_names.Given as goal

abbrev pub invariant-names : goal.invariant-names
invariant-names l = l.out ≡ l.initial.out ++ names_text (take l.at l.names)
