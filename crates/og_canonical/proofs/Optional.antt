-- What stands in round brackets only where there is something.
use Rattle.std.proofs.Common.{◌≡◌, ℕ, List, [], ◌∷◌, ◌++◌, map, refl, append_assoc}
use Rattle.og_canonical.specs.Tokens.{commas, in_parens, optional}

pub optional_some : {X : Type 0} (f : X → List ℕ) (xs : List X) → (xs ≡ [] → ⊥)
    → optional (map f xs) ≡ in_parens (commas (map f xs))
optional_some f [] some = absurd (some refl)
optional_some f (x ∷ xs) some = refl

pub optional_none : {X : Type 0} (f : X → List ℕ) (xs : List X) → xs ≡ [] → optional (map f xs) ≡ []
optional_none f [] none = refl
optional_none f (x ∷ xs) none = cc

pub ruleset optional_forms = (append_assoc, optional_some, optional_none)
