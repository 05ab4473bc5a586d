use Rattle.std.proofs.Common.{◌≡◌, ◌++◌, take}
use Rattle.og_small.proofs.rules.add_names.Given as goal

abbrev pub invariant-more : goal.invariant-more
invariant-more l = l.names ≡ l.initial.names ++ take l.name-index l.more
