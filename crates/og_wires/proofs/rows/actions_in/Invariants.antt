use Rattle.std.proofs.Common.{◌≡◌, drop, length}
use Rattle.og_expr.specs.Counts.{capped}
use Rattle.og_typing.specs.Sizes.{with_parts}
use Rattle.og_wires.specs.Rows.{actions_in}
use Rattle.og_wires.proofs.rows.actions_in.Given as goal

abbrev pub invariant-rows : goal.invariant-rows
invariant-rows l =
    with_parts (λ row. capped (length row.actions)) l.found (drop l.row-index l.among.rows) ≡ actions_in l.among
