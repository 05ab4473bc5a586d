use Rattle.std.proofs.Common.{rules, arith, ◌≡◌, ◌<◌, length, get_or}
use Rattle.og_expr.specs.Parts.{addend_part}
use Rattle.og_expr.specs.Counts.{nodes_of, height_of}
use Rattle.og_expr.specs.Levels.{addend_with}
use Rattle.std.proofs.lemmas.Grind.{common_steps}
use Rattle.og_expr.proofs.Together.{next_nodes, next_height}
use Rattle.og_expr.proofs.count.addends.Goals as goal

pub parts-preserved : goal.parts-preserved
parts-preserved c =
    let lt : c.parts.part-index < length c.args.parts.now = search rules in
    let is : c.part-item.result ≡ get_or c.args.parts.now c.parts.part-index c.part-item.result = cc in
    let one = next_nodes addend_part (addend_with nodes_of) c.args.parts.now c.parts.part-index c.part-item.result lt is in
    let two = next_height addend_part (addend_with height_of) c.args.parts.now c.parts.part-index c.part-item.result lt is in
    (grind (arith, common_steps, one), grind (arith, common_steps, two))
