use Rattle.std.proofs.Common.{◌≡◌, take}
use Rattle.og_small.proofs.copies.copy_names.Given as goal

abbrev pub invariant-names : goal.invariant-names
invariant-names l = l.made ≡ take l.name-index l.names
