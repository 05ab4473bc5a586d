use Rattle.std.proofs.Common.{◌≡◌, drop}
use Rattle.og_game.specs.Wired.{are_wires}
use Rattle.og_game.proofs.types.are_wires.Given as goal

abbrev pub invariant-types : goal.invariant-types
invariant-types l = are_wires (drop l.ty-index l.types) ≡ are_wires l.types
