-- Lists of names: how often one stands in them.
use Rattle.std.specs.Prelude.{ℕ, List, count_by, bytes_eq}

abbrev pub times : List (List ℕ) → List ℕ → ℕ
times names name = count_by (λ other. bytes_eq other name) names
