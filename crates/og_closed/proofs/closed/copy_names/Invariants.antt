use Rattle.std.proofs.Common.{◌≡◌, take}
use Rattle.og_closed.proofs.closed.copy_names.Given as goal

abbrev pub invariant-names : goal.invariant-names
invariant-names l = l.all ≡ take l.name-index l.names
