use Rattle.std.proofs.Common.{◌≡◌, take}
use Rattle.og_syntax.proofs.games.Among.copy.Given as goal

abbrev pub invariant-rows : goal.invariant-rows
invariant-rows l = l.rows ≡ take l.row-index l.self.rows
