use Rattle.std.proofs.Common.{◌≡◌, drop, ◌++◌}
use Rattle.og_wires.proofs.games.joined.Given as goal

abbrev pub invariant-second : goal.invariant-second
invariant-second l =
    l.types ++ drop l.ty-index l.second ≡ l.fn.first ++ l.second
