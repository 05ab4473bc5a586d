use Rattle.std.proofs.Common.{◌≡◌, ◌++◌, drop}
use Rattle.og_rows.specs.Rows.{ranks_of}
use Rattle.og_rows.proofs.rows.ranks_of.Given as goal

abbrev pub invariant-entries : goal.invariant-entries
invariant-entries l = l.all ++ ranks_of (drop l.entry-index l.row) ≡ ranks_of l.row
