use Rattle.std.proofs.Common.{◌≡◌, take}
use Rattle.og_game.proofs.copy.results.Given as goal

abbrev pub invariant-those : goal.invariant-those
invariant-those l = l.all ≡ take l.one-index l.those
