use Rattle.std.proofs.Common.{◌≡◌, drop}
use Rattle.std.specs.List.{list_all}
use Rattle.og_game.specs.Rows.{is_set}
use Rattle.og_game.proofs.rows.are_sets.Given as goal

abbrev pub invariant-sets : goal.invariant-sets
invariant-sets l = list_all (is_set l.count) (drop l.ranks-index l.sets) ≡ list_all (is_set l.count) l.sets
