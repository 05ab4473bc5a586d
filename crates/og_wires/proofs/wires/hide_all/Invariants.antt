use Rattle.std.proofs.Common.{◌≡◌, drop}
use Rattle.og_wires.specs.Wires.{hide_all}
use Rattle.og_wires.proofs.wires.hide_all.Given as goal

abbrev pub invariant-names : goal.invariant-names
invariant-names l =
    hide_all l.hidden (drop l.name-index l.names) ≡ hide_all l.initial.hidden l.names
