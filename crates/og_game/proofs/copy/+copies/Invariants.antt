use Rattle.std.proofs.Common.{◌≡◌, take}
use Rattle.og_game.proofs.copy.+copies.Given as goal

abbrev pub invariant-lines-those : goal.invariant-lines-those
invariant-lines-those l = l.all ≡ take l.one-index l.those

abbrev pub invariant-arms-those : goal.invariant-arms-those
invariant-arms-those l = l.all ≡ take l.one-index l.those
