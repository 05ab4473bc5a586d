use Rattle.std.proofs.Common.{◌≡◌, drop}
use Rattle.og_typing.specs.Checked.{in_turn}
use Rattle.og_wires.specs.Rows.{row_walk}
use Rattle.og_wires.proofs.rows.walk_rows.Given as goal

abbrev pub invariant-rows : goal.invariant-rows
invariant-rows l =
    in_turn (row_walk l.declared l.choice) l.drawn (drop l.row-index l.rows)
    ≡ in_turn (row_walk l.declared l.choice) l.initial.drawn l.rows
