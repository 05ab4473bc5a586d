use Rattle.std.proofs.Common.{◌≡◌, take}
use Rattle.og_game.proofs.copy.expressions.Given as goal

abbrev pub invariant-those : goal.invariant-those
invariant-those l = l.all ≡ take l.e-index l.those
