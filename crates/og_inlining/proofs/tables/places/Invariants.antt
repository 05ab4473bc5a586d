use Rattle.std.proofs.Common.{◌≡◌, [], drop}
use Rattle.og_inlining.specs.Trees.{places}
use Rattle.og_inlining.proofs.tables.places.Given as goal

abbrev pub invariant-ranks : goal.invariant-ranks
invariant-ranks l = places l.ranks l.rank l.all (drop l.rank l.ranks) ≡ places l.ranks 0 [] l.ranks
