use Rattle.std.proofs.Common.{◌≡◌, drop}
use Rattle.og_wires.specs.Rows.{all_parts}
use Rattle.std.specs.Prelude.{◌==◌}
use Rattle.og_wires.proofs.rows.is_one.Given as goal

abbrev pub invariant-entries : goal.invariant-entries
invariant-entries l =
    (all_parts l.scale (drop l.entry-index l.entries) == l.left) ≡ (all_parts l.scale l.entries == l.scale)
