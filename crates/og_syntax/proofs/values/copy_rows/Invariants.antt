use Rattle.std.proofs.Common.{◌≡◌, take}
use Rattle.og_syntax.proofs.values.copy_rows.Given as goal

abbrev pub invariant-rows : goal.invariant-rows
invariant-rows l = l.all ≡ take l.row-index l.rows
