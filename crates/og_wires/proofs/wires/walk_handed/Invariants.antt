use Rattle.std.proofs.Common.{◌≡◌, drop}
use Rattle.og_typing.specs.Checked.{in_turn}
use Rattle.og_typing.specs.Scopes.{names_of}
use Rattle.og_wires.specs.Wires.{handing, handed_walk}
use Rattle.og_wires.proofs.wires.walk_handed.Given as goal

abbrev pub invariant-parts : goal.invariant-parts
invariant-parts l =
    in_turn (handing (names_of l.scope)) l.handed (drop l.e-index l.parts) ≡ handed_walk (names_of l.scope) l.fn.size l.parts
