use Rattle.std.proofs.Common.{◌≡◌, drop}
use Rattle.og_wires.specs.Wires.{hide_params}
use Rattle.og_wires.proofs.wires.hide_params.Given as goal

abbrev pub invariant-params : goal.invariant-params
invariant-params l =
    hide_params l.hidden (drop l.param-index l.params) ≡ hide_params l.initial.hidden l.params
