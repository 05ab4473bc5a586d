-- Lists of ranks, of what is allowed and of what has weights.
use Rattle.std.specs.Prelude.{ℕ, ◌+◌, ◌==◌, nat_le, nat_lt, Bool, true, ◌&&◌, List, [], ◌∷◌, map, length, Option, Some, None}
use Rattle.std.specs.List.{list_all}

-- The ranks rise, from the first bound on and below the second.
abbrev pub are_rising : ℕ → ℕ → List ℕ → Bool
are_rising from count [] = true
are_rising from count (r ∷ rs) = (nat_le from r && nat_lt r count) && are_rising (r + 1) count rs

-- a rank or more, in order, once each
abbrev pub is_set : ℕ → List ℕ → Bool
is_set count ranks = nat_lt 0 (length ranks) && are_rising 0 count ranks

-- Each of the observations has a set of actions, where there are sets.
abbrev pub are_allowed : ℕ → ℕ → Option (List (List ℕ)) → Bool
are_allowed observations actions None = true
are_allowed observations actions (Some sets) = (length sets == observations) && list_all (is_set actions) sets

abbrev pub total_weight : List (ℕ × ℕ) → ℕ
total_weight [] = 0
total_weight (entry ∷ entries) = entry.1 + total_weight entries

-- The weights are positive and add up to the scale.
abbrev pub are_weights : ℕ → List (ℕ × ℕ) → Bool
are_weights scale row = list_all (λ entry. nat_lt 0 entry.1) row && (total_weight row == scale)

-- The ranks are in order, once each, with such weights.
abbrev pub is_row : ℕ → ℕ → List (ℕ × ℕ) → Bool
is_row outcomes scale row = are_rising 0 outcomes (map (λ entry. entry.0) row) && are_weights scale row

-- Each of the observations has a row.
abbrev pub are_rows : ℕ → ℕ → ℕ → List (List (ℕ × ℕ)) → Bool
are_rows observations outcomes scale rows =
    (length rows == observations) && list_all (is_row outcomes scale) rows
