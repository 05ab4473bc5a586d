use Rattle.std.proofs.Common.{◌≡◌, map, drop}
use Rattle.std.specs.List.{list_all}
use Rattle.og_expr.specs.Types.{type_of, factor_fits}
use Rattle.og_expr.specs.Levels.{factor_with}
use Rattle.og_expr.proofs.build.are_factors.Given as goal

abbrev pub invariant-parts : goal.invariant-parts
invariant-parts l = list_all factor_fits (map (factor_with type_of) (drop l.part-index l.parts)) ≡ list_all factor_fits (map (factor_with type_of) l.parts)
