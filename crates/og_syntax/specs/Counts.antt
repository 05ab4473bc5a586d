-- What one token does to the counts of operators that `first_deep` keeps, one for each depth bracket and one for what
-- stands outside all.
use Rattle.std.specs.Prelude.{◌≡◌, ℕ, ◌+◌, ◌-◌, ◌<◌, ◌≤◌, ◌==◌, if◌then◌else◌, List, slice_index, slice_set}
use Rattle.og_syntax.specs.declared.depth.Role.{Role}
use Rattle.og_syntax.specs.declared.depth.Role.TheVariants as roles

-- there is no room for the token
abbrev pub IsFull : Role → ℕ → List ℕ → Type 0
IsFull roles.Opens depth counts = 64 ≤ depth
IsFull roles.Composes depth counts = 32 ≤ slice_index counts depth
IsFull _ depth counts = ⊥

-- the token is passed, with so many brackets open before it and after it
abbrev pub Passes : Role → (depth : ℕ) → (counts : List ℕ) → (after : ℕ) → (made : List ℕ) → Type 0
Passes roles.Opens depth counts after made =
    (depth < 64) × (after ≡ depth + 1) × (made ≡ slice_set counts (depth + 1) 0)
Passes roles.Closes depth counts after made =
    (after ≡ depth - 1) × (made ≡ (if depth == 0 then slice_set counts 0 0 else counts))
Passes roles.Composes depth counts after made =
    (slice_index counts depth < 32) × (after ≡ depth)
    × (made ≡ slice_set counts depth (slice_index counts depth + 1))
Passes roles.Ends depth counts after made = (after ≡ depth) × (made ≡ slice_set counts depth 0)
Passes roles.Other depth counts after made = (after ≡ depth) × (made ≡ counts)
