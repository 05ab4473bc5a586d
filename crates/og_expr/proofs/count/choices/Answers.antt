use Rattle.std.proofs.Common.{rules, ◌≡◌, ◌<◌, length, get_or}
use Rattle.std.specs.Prelude.{max}
use Rattle.og_expr.specs.Parts.{choice_parts}
use Rattle.og_expr.specs.Counts.{nodes_of, height_of, plus}
use Rattle.og_expr.specs.Levels.{choice_with}
use Rattle.og_expr.proofs.Together.{next_nodes, next_height, capped_plus, capped_max}
use Rattle.og_expr.proofs.count.choices.Goals as goal

pub parts-preserved : goal.parts-preserved
parts-preserved c =
    let lt : c.parts.part-index < length c.args.parts.now = search rules in
    let is : c.part-item.result ≡ get_or c.args.parts.now c.parts.part-index c.part-item.result = cc in
    let one = next_nodes (choice_parts plus) (choice_with nodes_of) c.args.parts.now c.parts.part-index c.part-item.result lt is in
    let two = next_height (choice_parts max) (choice_with height_of) c.args.parts.now c.parts.part-index c.part-item.result lt is in
    let nodes = capped_plus (nodes_of c.part-item.result.cond) (nodes_of c.part-item.result.body) in
    let heights = capped_max (height_of c.part-item.result.cond) (height_of c.part-item.result.body) in
    (cc, cc)
