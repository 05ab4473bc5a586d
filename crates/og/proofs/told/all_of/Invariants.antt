use Rattle.std.proofs.Common.{◌≡◌, ◌++◌}
use Rattle.std.specs.Vec.Iter.{into_iter_items}
use Rattle.og.proofs.told.all_of.Given as goal

abbrev pub invariant-words : goal.invariant-words
invariant-words l = l.all.items ++ into_iter_items l.word-iterator ≡ into_iter_items l.fn.words
