use Rattle.std.proofs.Common.{◌≡◌, map, drop}
use Rattle.og_expr.specs.Types.{type_of, join_onto, join_all}
use Rattle.og_expr.proofs.build.join_rows.Given as goal

abbrev pub invariant-rows : goal.invariant-rows
invariant-rows l = join_onto l.joined (map type_of (drop l.row-index l.row-items)) ≡ join_all (map type_of l.rows)
