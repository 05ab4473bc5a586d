-- The places of ranks, one after another.
use Rattle.std.proofs.Common.{◌≡◌, ◌∙◌, ℕ, suc, ◌+◌, ◌<◌, List, [], ◌∷◌, ◌++◌, length, drop, ap, sym, add-one}
use Rattle.std.specs.Prelude.{Some, None, option_and_then}
use Rattle.std.proofs.Math.Seq.{drop-cons}
use Rattle.og_inlining.specs.Trees.{where_is, places}

place_of : (ranks : List ℕ) (k : ℕ) (found : List ℕ) → k < length ranks
    → places ranks k found (drop k ranks)
    ≡ option_and_then (λ at. places ranks (k + 1) (found ++ at ∷ []) (drop (suc k) ranks)) (where_is k ranks)
place_of ranks k found within = ap (places ranks k found) (drop-cons ranks k 0 within)

pub place_next : (ranks : List ℕ) (k : ℕ) (found : List ℕ) (at : ℕ) → k < length ranks → where_is k ranks ≡ Some at
    → places ranks k found (drop k ranks) ≡ places ranks (k + 1) (found ++ at ∷ []) (drop (k + 1) ranks)
place_next ranks k found at within is =
    place_of ranks k found within
    ∙ ap (option_and_then (λ at. places ranks (k + 1) (found ++ at ∷ []) (drop (suc k) ranks))) is
    ∙ ap (λ n. places ranks (k + 1) (found ++ at ∷ []) (drop n ranks)) (sym (add-one k))

pub place_none : (ranks : List ℕ) (k : ℕ) (found : List ℕ) → k < length ranks → where_is k ranks ≡ None
    → places ranks k found (drop k ranks) ≡ None
place_none ranks k found within is =
    place_of ranks k found within
    ∙ ap (option_and_then (λ at. places ranks (k + 1) (found ++ at ∷ []) (drop (suc k) ranks))) is
