use Rattle.std.proofs.Common.{◌≡◌, ◌++◌, drop}
use Rattle.og_inlining.specs.Trees.{types_of}
use Rattle.og_inlining.proofs.tables.types_of.Given as goal

abbrev pub invariant-keys : goal.invariant-keys
invariant-keys l = l.all ++ types_of (drop l.key-index l.keys) ≡ types_of l.keys
