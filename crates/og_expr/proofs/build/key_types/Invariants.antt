use Rattle.std.proofs.Common.{◌≡◌, map, take}
use Rattle.og_expr.specs.Types.{type_of}
use Rattle.og_expr.specs.Levels.{key_with}
use Rattle.og_expr.proofs.build.key_types.Given as goal

abbrev pub invariant-parts : goal.invariant-parts
invariant-parts l = l.all ≡ map (λ key. key.ty) (map (key_with type_of) (take l.part-index l.parts))
