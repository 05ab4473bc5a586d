use Rattle.std.proofs.Common.{◌≡◌, take}
use Rattle.og_game.proofs.copy.sets.Given as goal

abbrev pub invariant-those : goal.invariant-those
invariant-those l = l.all ≡ take l.ranks-index l.those
