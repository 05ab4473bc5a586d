use Rattle.std.proofs.Common.{rules, ◌≡◌, ◌<◌, length, get_or}
use Rattle.og_expr.specs.Counts.{nodes_of, height_of}
use Rattle.og_expr.proofs.Together.{next_nodes, next_height}
use Rattle.og_expr.proofs.count.all.Goals as goal

pub parts-preserved : goal.parts-preserved
parts-preserved c =
    let lt : c.parts.part-index < length c.args.parts.now = search rules in
    let is : c.part-item.result ≡ get_or c.args.parts.now c.parts.part-index c.part-item.result = cc in
    let one = next_nodes (λ n. n) nodes_of c.args.parts.now c.parts.part-index c.part-item.result lt is in
    let two = next_height (λ n. n) height_of c.args.parts.now c.parts.part-index c.part-item.result lt is in
    (cc, cc)
