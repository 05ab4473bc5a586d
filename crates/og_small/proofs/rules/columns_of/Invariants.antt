use Rattle.std.proofs.Common.{◌≡◌, take}
use Rattle.og_small.specs.Rules.{columns_of}
use Rattle.og_small.proofs.rules.columns_of.Given as goal

abbrev pub invariant-keys : goal.invariant-keys
invariant-keys l = l.columns ≡ columns_of l.types (take l.key-index l.keys)
