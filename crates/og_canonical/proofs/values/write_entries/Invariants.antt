use Rattle.std.proofs.Common.{◌≡◌, ◌++◌, take}
use Rattle.og_canonical.specs.Values.{entries_text}
use Rattle.og_canonical.proofs.values.write_entries.Given as goal

abbrev pub invariant-entries : goal.invariant-entries
invariant-entries l = l.out ≡ l.initial.out ++ entries_text (take l.at l.entries)
