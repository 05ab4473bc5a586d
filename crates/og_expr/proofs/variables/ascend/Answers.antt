use Rattle.std.proofs.lemmas.List.Filters.{dedup_is}
use Rattle.og_expr.proofs.Ascending.{ascends, same_numbers}
use Rattle.og_expr.proofs.variables.ascend.Goals as goal

pub returns-clause-ascending : goal.returns-clause-ascending
returns-clause-ascending c = rw (dedup_is _ _ _ c.dedup.ensures.filtered) (ascends _ c.sort_unstable.ensures.sorted)

pub returns-clause-each : goal.returns-clause-each
returns-clause-each c n =
    rw (dedup_is _ _ _ c.dedup.ensures.filtered) (same_numbers _ _ c.sort_unstable.ensures.permutation n)
