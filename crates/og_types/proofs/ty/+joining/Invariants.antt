use Rattle.std.proofs.Common.{◌≡◌, ◌++◌, drop, map}
use Rattle.std.specs.Option.{option_map}
use Rattle.og_types.specs.Ty.{join, joins}
use Rattle.og_types.proofs.ty.+joining.Given as goal

abbrev pub invariant-join_all-types : goal.invariant-join_all-types
invariant-join_all-types l = option_map (λ ts. l.all ++ ts) (joins (map join (drop l.at l.types)) (drop l.at l.with)) ≡ joins (map join l.types) l.with
