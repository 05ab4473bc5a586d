use Rattle.std.proofs.Common.{◌≡◌, ◌++◌, map, drop}
use Rattle.og_rows.specs.Rows.{ranks_of}
use Rattle.og_rows.proofs.rows.all_ranks.Given as goal

abbrev pub invariant-rows : goal.invariant-rows
invariant-rows l = l.all ++ map ranks_of (drop l.row-index l.rows) ≡ map ranks_of l.rows
