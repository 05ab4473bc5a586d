use Rattle.std.proofs.Common.{◌≡◌, ◌++◌, take}
use Rattle.std.specs.Prelude.{flat_map}
use Rattle.og_canonical.specs.Values.{row_text}
use Rattle.og_canonical.proofs.values.write_rows.Given as goal

abbrev pub invariant-rows : goal.invariant-rows
invariant-rows l = l.out ≡ l.initial.out ++ flat_map row_text (take l.row-index l.rows)
