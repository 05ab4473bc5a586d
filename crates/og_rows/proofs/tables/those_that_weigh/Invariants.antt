use Rattle.std.proofs.Common.{◌≡◌, ◌++◌, drop}
use Rattle.og_rows.specs.Rows.{those_that_weigh}
use Rattle.og_rows.proofs.tables.those_that_weigh.Given as goal

abbrev pub invariant-ranks : goal.invariant-ranks
invariant-ranks l =
    l.found ++ those_that_weigh l.rank (drop l.rank l.weights) ≡ those_that_weigh 0 l.weights
