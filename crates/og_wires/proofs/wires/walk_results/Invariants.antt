use Rattle.std.proofs.Common.{◌≡◌, drop}
use Rattle.og_typing.specs.Checked.{in_turn}
use Rattle.og_typing.specs.Scopes.{names_of}
use Rattle.og_wires.specs.Wires.{result_walk, results_walk}
use Rattle.og_wires.proofs.wires.walk_results.Given as goal

abbrev pub invariant-parts : goal.invariant-parts
invariant-parts l =
    in_turn (result_walk l.passes (names_of l.scope)) l.results (drop l.part-index l.parts)
    ≡ results_walk l.passes (names_of l.scope) l.fn.size l.parts
