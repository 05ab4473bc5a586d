use Rattle.std.proofs.Common.{◌≡◌, drop, ◌++◌, ◌∷◌}
use Rattle.og_wires.proofs.branch.behind.Given as goal

abbrev pub invariant-more : goal.invariant-more
invariant-more l =
    l.types ++ drop l.ty-index l.more ≡ l.fn.first ∷ l.more
