use Rattle.std.proofs.Common.{◌≡◌, [], ◌∷◌, ◌++◌, map, drop}
use Rattle.og_expr.specs.Types.{type_of, join_onto, join_all}
use Rattle.og_expr.specs.Levels.{choice_with}
use Rattle.og_expr.proofs.build.join_branches.Given as goal

abbrev pub invariant-parts : goal.invariant-parts
invariant-parts l =
    join_onto l.joined (map (λ c. c.body) (map (choice_with type_of) (drop l.part-index l.part-items)) ++ type_of l.last ∷ [])
    ≡ join_all (map (λ c. c.body) (map (choice_with type_of) l.parts) ++ type_of l.last ∷ [])
