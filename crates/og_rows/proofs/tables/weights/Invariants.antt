use Rattle.std.proofs.Common.{◌≡◌, map, take}
use Rattle.std.specs.List.{range_with_len}
use Rattle.og_rows.specs.Rows.{weight_in}
use Rattle.og_rows.proofs.tables.weights.Given as goal

abbrev pub invariant-items : goal.invariant-items
invariant-items l = l.made ≡ map (weight_in (take l.item-index l.items)) (range_with_len 0 l.count)
