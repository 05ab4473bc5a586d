use Rattle.std.proofs.Common.{arith, map}
use Rattle.std.proofs.lemmas.Grind.{common_steps}
use Rattle.og_typing.specs.Levels.{row_with}
use Rattle.og_typing.specs.Scopes.{names_of}
use Rattle.og_typing.specs.Expressions.{part_of}
use Rattle.og_typing.proofs.Tables.{rows_counted}
use Rattle.og_typing.proofs.expressions.+walking.Goals as goal

pub walk_table-returns-in-Some : goal.walk_table-returns-in-Some
walk_table-returns-in-Some t c = grind (
  arith,
  common_steps,
  rows_counted c.args.at (names_of c.args.scope.now) c.args.depth c.args.keys (map (row_with part_of) c.args.rows.now)
      c.in-Some.count,
)
