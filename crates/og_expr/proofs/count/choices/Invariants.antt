use Rattle.std.proofs.Common.{◌≡◌, map, take}
use Rattle.std.specs.Prelude.{max}
use Rattle.og_expr.specs.Parts.{all_together, choice_parts}
use Rattle.og_expr.specs.Counts.{nodes_of, height_of, plus, capped}
use Rattle.og_expr.specs.Levels.{choice_with}
use Rattle.og_expr.proofs.count.choices.Given as goal

abbrev pub invariant-parts : goal.invariant-parts
invariant-parts l =
    (l.size.nodes ≡ capped (all_together 0 plus (choice_parts plus) (map (choice_with nodes_of) (take l.part-index l.parts))))
    × (l.size.height ≡ capped (all_together 0 max (choice_parts max) (map (choice_with height_of) (take l.part-index l.parts))))
