use Rattle.std.proofs.Common.{◌≡◌, drop}
use Rattle.std.specs.List.{list_all}
use Rattle.og_game.specs.Rows.{is_row}
use Rattle.og_game.proofs.rows.are_rows.Given as goal

abbrev pub invariant-rows : goal.invariant-rows
invariant-rows l =
    list_all (is_row l.outcomes l.scale) (drop l.row-index l.rows) ≡ list_all (is_row l.outcomes l.scale) l.rows
