use Rattle.std.proofs.Common.{◌≡◌, drop}
use Rattle.og_wires.specs.Wires.{all_go}
use Rattle.og_wires.proofs.wires.all_go.Given as goal

abbrev pub invariant-items : goal.invariant-items
invariant-items l =
    all_go l.wanted l.at (drop l.at l.items) ≡ all_go l.wanted 0 l.items
