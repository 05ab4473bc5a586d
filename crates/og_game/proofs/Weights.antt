-- Weights that add up to a scale, one after another.
use Rattle.std.proofs.Common.{◌≡◌, ◌∙◌, ℕ, ◌+◌, ◌-◌, ◌<◌, ◌≤◌, arith, Bool, true, false, ◌&&◌, length, drop, get_or, List, ◌∷◌, refl, ap, sym}
use Rattle.std.specs.Prelude.{◌==◌, nat_lt}
use Rattle.std.specs.List.{list_all}
use Rattle.og_list.proofs.Drop.{drop_at}
use Rattle.og_game.specs.Rows.{total_weight, are_weights}

left_of : (w s left : ℕ) → w ≤ left → (w + s == left) ≡ (s == left - w)
left_of w s left h = grind (arith)

at_least : (w : ℕ) → 0 < w → nat_lt 0 w ≡ true
at_least w h = grind (arith)

not_left : (w s left : ℕ) → left < w → (w + s == left) ≡ false
not_left w s left h = grind (arith)

false_behind : (b : Bool) → b && false ≡ false
false_behind true = refl
false_behind false = refl

head : (left : ℕ) (x : ℕ × ℕ) (xs : List (ℕ × ℕ)) → 0 < x.1 → x.1 ≤ left
    → are_weights left (x ∷ xs) ≡ are_weights (left - x.1) xs
head left x xs some fits =
    λ i. (at_least x.1 some i && list_all (λ entry. nat_lt 0 entry.1) xs)
    && left_of x.1 (total_weight xs) left fits i

pub weights_next : (left : ℕ) (row : List (ℕ × ℕ)) (i : ℕ) (x : ℕ × ℕ) → i < length row → x ≡ get_or row i x
    → 0 < x.1 → x.1 ≤ left → are_weights (left - x.1) (drop (i + 1) row) ≡ are_weights left (drop i row)
weights_next left row i x lt is some fits =
    sym (ap (are_weights left) (drop_at row i x lt is) ∙ head left x (drop (i + 1) row) some fits)

pub weights_more : (left : ℕ) (row : List (ℕ × ℕ)) (i : ℕ) (x : ℕ × ℕ) → i < length row → x ≡ get_or row i x
    → left < x.1 → false ≡ are_weights left (drop i row)
weights_more left row i x lt is more = sym (ap (are_weights left) (drop_at row i x lt is)
    ∙ ap (λ b. list_all (λ entry. nat_lt 0 entry.1) (x ∷ drop (i + 1) row) && b)
    (not_left x.1 (total_weight (drop (i + 1) row)) left more)
    ∙ false_behind (list_all (λ entry. nat_lt 0 entry.1) (x ∷ drop (i + 1) row)))
