use Rattle.std.proofs.Common.{◌≡◌, take}
use Rattle.og_syntax.proofs.values.copy_entries.Given as goal

abbrev pub invariant-entries : goal.invariant-entries
invariant-entries l = l.all ≡ take l.entry-index l.entries
