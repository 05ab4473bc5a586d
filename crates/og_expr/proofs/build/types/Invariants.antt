use Rattle.std.proofs.Common.{◌≡◌, ◌++◌, map, drop}
use Rattle.std.specs.Option.{option_map}
use Rattle.og_expr.specs.Types.{type_of, each_of}
use Rattle.og_expr.proofs.build.types.Given as goal

abbrev pub invariant-parts : goal.invariant-parts
invariant-parts l = option_map (λ ts. l.all ++ ts) (each_of (map type_of (drop l.part-index l.parts))) ≡ each_of (map type_of l.parts)
