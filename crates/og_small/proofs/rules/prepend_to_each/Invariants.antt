use Rattle.std.proofs.Common.{◌≡◌, ◌++◌, ◌∷◌, take, map}
use Rattle.og_small.proofs.rules.prepend_to_each.Given as goal

abbrev pub invariant-rest : goal.invariant-rest
invariant-rest l = l.all ≡ l.initial.all ++ map (λ names. l.name ∷ names) (take l.names-index l.rest)
