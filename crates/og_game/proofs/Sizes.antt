-- Sizes of several types, by numbers that stand still, where one more type is added.
use Rattle.std.proofs.Common.{◌≡◌, ◌∙◌, ℕ, ◌+◌, ◌<◌, arith, length, take, get_or, List, [], ◌∷◌, ◌++◌, map, ap, sym}
use Rattle.std.specs.Prelude.{max, sum_by}
use Rattle.std.proofs.lemmas.List.Sums.{sum_by-append}
use Rattle.std.proofs.lemmas.List.{take_more, map-append}
use Rattle.og_expr.specs.Counts.{capped}
use Rattle.og_native.specs.Ports.{highest}

highest_push : (ns : List ℕ) (n : ℕ) → highest (ns ++ n ∷ []) ≡ max (highest ns) n
highest_push [] n = omega arith
highest_push (m ∷ ns) n = ap (max m) (highest_push ns n) ∙ omega arith

one_more : {A : Type 0} (f : A → ℕ) (xs : List A) (i : ℕ) (x : A) → i < length xs → x ≡ get_or xs i x
    → map f (take (i + 1) xs) ≡ map f (take i xs) ++ f x ∷ []
one_more f xs i x lt is =
    ap (map f) (take_more xs i x lt) ∙ map-append f (take i xs) (get_or xs i x ∷ [])
    ∙ ap (λ y. map f (take i xs) ++ f y ∷ []) (sym is)

pub next_height : {A : Type 0} (f : A → ℕ) (xs : List A) (i : ℕ) (x : A) → i < length xs → x ≡ get_or xs i x
    → capped (highest (map f (take (i + 1) xs))) ≡ max (capped (highest (map f (take i xs)))) (capped (f x))
next_height f xs i x lt is =
    ap (λ ns. capped (highest ns)) (one_more f xs i x lt is)
    ∙ ap capped (highest_push (map f (take i xs)) (f x)) ∙ omega arith

pub next_nodes : {A : Type 0} (f : A → ℕ) (xs : List A) (i : ℕ) (x : A) → i < length xs → x ≡ get_or xs i x
    → capped (sum_by (λ n. n) (map f (take (i + 1) xs)))
    ≡ capped (capped (sum_by (λ n. n) (map f (take i xs))) + capped (f x))
next_nodes f xs i x lt is =
    ap (λ ns. capped (sum_by (λ n. n) ns)) (one_more f xs i x lt is)
    ∙ ap capped (sum_by-append (λ n. n) (map f (take i xs)) (f x ∷ [])) ∙ omega arith
