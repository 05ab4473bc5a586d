-- What items have together, where one more is added, and what is made of the variables that parts have together.
use Rattle.std.proofs.Common.{◌≡◌, ◌∙◌, ℕ, ◌+◌, ◌<◌, arith, length, take, get_or, List, [], ◌∷◌, ◌++◌, map, ap, sym}
use Rattle.std.specs.Prelude.{max}
use Rattle.std.proofs.lemmas.List.{take_more, map-append}
use Rattle.og_expr.specs.Parts.{all_together}
use Rattle.og_expr.specs.Counts.{plus, capped}

push : {A B : Type 0} (none : A) (both : A → A → A) → ((a b c : A) → both (both a b) c ≡ both a (both b c))
    → ((a : A) → both none a ≡ both a none) → (f : B → A) (xs : List B) (x : B)
    → all_together none both f (xs ++ x ∷ []) ≡ both (all_together none both f xs) (f x)
push none both grouped unit f [] x = sym (unit (f x))
push none both grouped unit f (y ∷ xs) x =
    ap (both (f y)) (push none both grouped unit f xs x) ∙ sym (grouped (f y) (all_together none both f xs) (f x))

-- what the first items have together, with one more of them
next : {A B E : Type 0} (none : A) (both : A → A → A) → ((a b c : A) → both (both a b) c ≡ both a (both b c))
    → ((a : A) → both none a ≡ both a none) → (f : B → A) (g : E → B) (xs : List E) (i : ℕ) (x : E)
    → i < length xs → x ≡ get_or xs i x
    → all_together none both f (map g (take (i + 1) xs)) ≡ both (all_together none both f (map g (take i xs))) (f (g x))
next none both grouped unit f g xs i x lt is =
    ap (λ ys. all_together none both f (map g ys)) (take_more xs i x lt) ∙ ap (all_together none both f) (map-append g (take i xs) (get_or xs i x ∷ []))
    ∙ push none both grouped unit f (map g (take i xs)) (g (get_or xs i x))
    ∙ ap (λ y. both (all_together none both f (map g (take i xs))) (f (g y))) (sym is)

-- ---- the same of numbers that stand still

pub capped_plus : (m n : ℕ) → capped (plus (capped m) (capped n)) ≡ capped (plus m n)
capped_plus m n = omega arith

pub capped_max : (m n : ℕ) → capped (max (capped m) (capped n)) ≡ capped (max m n)
capped_max m n = omega arith

pub next_nodes : {B E : Type 0} (f : B → ℕ) (g : E → B) (xs : List E) (i : ℕ) (x : E) → i < length xs → x ≡ get_or xs i x
    → capped (all_together 0 plus f (map g (take (i + 1) xs)))
    ≡ capped (plus (capped (all_together 0 plus f (map g (take i xs)))) (capped (f (g x))))
next_nodes f g xs i x lt is = ap capped (next 0 plus (λ a b c. omega arith) (λ a. omega arith) f g xs i x lt is)
    ∙ sym (capped_plus (all_together 0 plus f (map g (take i xs))) (f (g x)))

pub next_height : {B E : Type 0} (f : B → ℕ) (g : E → B) (xs : List E) (i : ℕ) (x : E) → i < length xs → x ≡ get_or xs i x
    → capped (all_together 0 max f (map g (take (i + 1) xs)))
    ≡ capped (max (capped (all_together 0 max f (map g (take i xs)))) (capped (f (g x))))
next_height f g xs i x lt is = ap capped (next 0 max (λ a b c. omega arith) (λ a. omega arith) f g xs i x lt is)
    ∙ sym (capped_max (all_together 0 max f (map g (take i xs))) (f (g x)))
