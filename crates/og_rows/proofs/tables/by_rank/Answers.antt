use Rattle.std.proofs.Common.{arith}
use Rattle.std.proofs.lemmas.Grind.{common_steps}
use Rattle.og_rows.proofs.Steps.{row_next}
use Rattle.og_rows.proofs.tables.by_rank.Goals as goal

pub observed-preserved : goal.observed-preserved
observed-preserved c = grind (
  arith,
  common_steps,
  row_next c.args.count c.args.rows.now c.observed.seen c.args.observed c.observed.all c.in-Some.row.now,
)
