use Rattle.std.proofs.Common.{◌≡◌, [], map, drop}
use Rattle.og_typing.specs.Levels.{row_with}
use Rattle.og_inlining.specs.Steps.{each_of}
use Rattle.og_inlining.specs.Trees.{tree_in, rank_in}
use Rattle.og_inlining.proofs.tables.ranks_of.Given as goal

abbrev pub invariant-rows : goal.invariant-rows
invariant-rows l =
    each_of (rank_in l.declared l.types) l.all (map (row_with tree_in) (drop l.row-index l.rows))
    ≡ each_of (rank_in l.declared l.types) [] (map (row_with tree_in) l.rows)
