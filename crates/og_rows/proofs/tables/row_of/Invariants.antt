use Rattle.std.proofs.Common.{◌≡◌, drop}
use Rattle.og_rows.specs.Rows.{row_of}
use Rattle.og_rows.proofs.tables.row_of.Given as goal

abbrev pub invariant-rows : goal.invariant-rows
invariant-rows l = row_of (drop l.row-index l.rows) l.seen ≡ row_of l.rows l.seen
