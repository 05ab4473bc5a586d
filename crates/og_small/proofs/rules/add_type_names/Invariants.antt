use Rattle.std.proofs.Common.{◌≡◌, ◌++◌, ◌∷◌, take}
use Rattle.std.specs.Prelude.{flat_map}
use Rattle.og_small.proofs.rules.add_type_names.Given as goal

abbrev pub invariant-types : goal.invariant-types
invariant-types l = l.names ≡ l.initial.names ++ flat_map (λ t. t.name ∷ t.cases) (take l.one-index l.types)
