use Rattle.std.proofs.Common.{◌≡◌, map, take}
use Rattle.std.specs.Prelude.{max}
use Rattle.og_expr.specs.Parts.{all_together, addend_part}
use Rattle.og_expr.specs.Counts.{nodes_of, height_of, plus, capped}
use Rattle.og_expr.specs.Levels.{addend_with}
use Rattle.og_expr.proofs.count.addends.Given as goal

abbrev pub invariant-parts : goal.invariant-parts
invariant-parts l =
    (l.size.nodes ≡ capped (all_together 0 plus addend_part (map (addend_with nodes_of) (take l.part-index l.parts))))
    × (l.size.height ≡ capped (all_together 0 max addend_part (map (addend_with height_of) (take l.part-index l.parts))))
