use Rattle.std.proofs.Common.{◌≡◌}
use Rattle.og_game.specs.Choices.{ranks}
use Rattle.og_game.proofs.build.ranks.Given as goal

abbrev pub invariant-ranks : goal.invariant-ranks
invariant-ranks l = l.all ≡ ranks l.rank
