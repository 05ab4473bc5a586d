use Rattle.std.proofs.Common.{map, drop}
use Rattle.og_expr.specs.Values.{place_in}
use Rattle.og_expr.proofs.Ranks.{Ahead}
use Rattle.og_expr.proofs.evaluation.place_in.Given as goal

abbrev pub invariant-keys : goal.invariant-keys
invariant-keys l = Ahead (map (λ key. key.ty) (drop l.at l.key-items)) (drop l.at l.found) l.rank (place_in (map (λ key. key.ty) l.keys) l.found)
