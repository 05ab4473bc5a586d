use Rattle.std.proofs.Common.{◌≡◌, ◌∷◌, take, map}
use Rattle.std.specs.Prelude.{flat_map}
use Rattle.og_small.proofs.rules.cross.Given as goal

abbrev pub invariant-column : goal.invariant-column
invariant-column l = l.all ≡ flat_map (λ name. map (λ names. name ∷ names) l.rest) (take l.name-index l.column)
