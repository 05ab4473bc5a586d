use Rattle.std.proofs.Common.{◌≡◌, drop}
use Rattle.og_typing.specs.Checked.{in_turn}
use Rattle.og_wires.specs.Rows.{action_walk}
use Rattle.og_wires.proofs.rows.walk_actions.Given as goal

abbrev pub invariant-actions : goal.invariant-actions
invariant-actions l =
    in_turn (action_walk l.declared l.ty) l.taken (drop l.action-index l.actions)
    ≡ in_turn (action_walk l.declared l.ty) l.initial.taken l.actions
