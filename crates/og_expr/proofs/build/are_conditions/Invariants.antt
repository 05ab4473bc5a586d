use Rattle.std.proofs.Common.{◌≡◌, map, drop}
use Rattle.std.specs.List.{list_all}
use Rattle.og_types.specs.declared.ty.Ty.TheVariants as ty
use Rattle.og_expr.specs.Types.{type_of, goes_as}
use Rattle.og_expr.specs.Levels.{choice_with}
use Rattle.og_expr.proofs.build.are_conditions.Given as goal

abbrev pub invariant-parts : goal.invariant-parts
invariant-parts l = list_all (λ c. goes_as ty.Bool c.cond) (map (choice_with type_of) (drop l.part-index l.parts)) ≡ list_all (λ c. goes_as ty.Bool c.cond) (map (choice_with type_of) l.parts)
