use Rattle.std.proofs.Common.{◌≡◌, drop}
use Rattle.og_typing.specs.Checked.{in_turn}
use Rattle.og_wires.specs.Rows.{among_row}
use Rattle.og_wires.proofs.rows.walk_among_rows.Given as goal

abbrev pub invariant-rows : goal.invariant-rows
invariant-rows l =
    in_turn (among_row l.declared l.choice) l.taken (drop l.row-index l.rows)
    ≡ in_turn (among_row l.declared l.choice) l.initial.taken l.rows
