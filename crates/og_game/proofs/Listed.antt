-- The ranks below a count, where one more is added.
use Rattle.std.proofs.Common.{◌≡◌, ◌∙◌, ℕ, ◌+◌, arith, [], ◌∷◌, ◌++◌, map-id, ap, sym}
use Rattle.std.proofs.lemmas.List.FromFn.{map-range_with_len_more}
use Rattle.og_game.specs.Choices.{ranks}

pub ranks_more : (n : ℕ) → ranks (n + 1) ≡ ranks n ++ n ∷ []
ranks_more n =
    sym (map-id (ranks (n + 1))) ∙ map-range_with_len_more (λ k. k) 0 n n (omega arith)
    ∙ ap (λ ns. ns ++ n ∷ []) (map-id (ranks n))
