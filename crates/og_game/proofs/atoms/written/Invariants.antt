use Rattle.std.proofs.Common.{◌≡◌, take}
use Rattle.og_game.specs.Wired.{written}
use Rattle.og_game.proofs.atoms.written.Given as goal

abbrev pub invariant-results : goal.invariant-results
invariant-results l = l.types ≡ written (take l.one-index l.results)
