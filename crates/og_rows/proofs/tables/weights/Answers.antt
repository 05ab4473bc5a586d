use Rattle.std.proofs.Common.{arith}
use Rattle.std.proofs.lemmas.Grind.{common_steps}
use Rattle.og_rows.proofs.Steps.{zeros_weigh, noted_next}
use Rattle.og_rows.proofs.tables.weights.Goals as goal

pub items-init : goal.items-init
items-init c = grind (arith, common_steps, zeros_weigh c.args.count)

pub items-preserved : goal.items-preserved
items-preserved c = grind (arith, common_steps, noted_next c.args.items.now c.items.item-index)
