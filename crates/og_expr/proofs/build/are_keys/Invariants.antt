use Rattle.std.proofs.Common.{◌≡◌, map, drop}
use Rattle.std.specs.List.{list_all}
use Rattle.og_expr.specs.Types.{type_of, key_fits}
use Rattle.og_expr.specs.Levels.{key_with}
use Rattle.og_expr.proofs.build.are_keys.Given as goal

abbrev pub invariant-parts : goal.invariant-parts
invariant-parts l = list_all key_fits (map (key_with type_of) (drop l.part-index l.parts)) ≡ list_all key_fits (map (key_with type_of) l.parts)
