use Rattle.std.proofs.Common.{◌≡◌, drop}
use Rattle.og_wires.specs.Rows.{each_one}
use Rattle.og_wires.proofs.rows.walk_each_one.Given as goal

abbrev pub invariant-rows : goal.invariant-rows
invariant-rows l =
    each_one l.scale (drop l.row-index l.rows) ≡ each_one l.scale l.rows
