use Rattle.std.proofs.Common.{◌≡◌, ◌++◌, take}
use Rattle.og_game.proofs.atoms.joined.Given as goal

abbrev pub invariant-second : goal.invariant-second
invariant-second l = l.types ≡ l.first ++ take l.ty-index l.second
