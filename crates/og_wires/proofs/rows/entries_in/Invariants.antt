use Rattle.std.proofs.Common.{◌≡◌, drop, length}
use Rattle.og_expr.specs.Counts.{capped}
use Rattle.og_typing.specs.Sizes.{with_parts}
use Rattle.og_wires.specs.Rows.{entries_in}
use Rattle.og_wires.proofs.rows.entries_in.Given as goal

abbrev pub invariant-rows : goal.invariant-rows
invariant-rows l =
    with_parts (λ row. capped (length row.entries)) l.found (drop l.row-index l.rows) ≡ entries_in l.rows
