-- Numbers among others.
use Rattle.std.proofs.Common.{◌≡◌, ℕ, zero, suc, Bool, true, false, List, [], ◌∷◌, map, refl, ap, sym, true≢false, arith}
use Rattle.std.specs.Prelude.{Contains, ◌==◌, ◌||◌, ◌↔◌, IfOk, Result, Ok, Err}
use Rattle.std.proofs.lemmas.Bool.{eq-eqb, eqb-true}
use Rattle.og_expr.specs.Variables.{Variable}
use Rattle.og_inlining.specs.Trees.{occurs}

occurs_there : (ns : List ℕ) (n : ℕ) → Contains ns n → occurs ns n ≡ true
occurs_there [] n c = absurd (omega (arith, c.1))
occurs_there (m ∷ ns) n (zero, l, at) = ap (λ b. b || occurs ns n) (eq-eqb m n at)
occurs_there (m ∷ ns) n (suc k, l, at) = either (m == n) (occurs_there ns n (k, omega arith, at))
  where
    either : (b : Bool) → occurs ns n ≡ true → (b || occurs ns n) ≡ true
    either true h = refl
    either false h = h

-- the number of a variable that is there
pub number_there : (vs : List Variable) (v : Variable) → Contains vs v → occurs (map (λ w. w.0) vs) v.0 ≡ true
number_there vs v c = occurs_there (map (λ w. w.0) vs) v.0 (mapped vs c)
  where
    mapped : (vs : List Variable) → Contains vs v → Contains (map (λ w. w.0) vs) v.0
    mapped [] c = absurd (omega (arith, c.1))
    mapped (w ∷ vs) (zero, l, at) = (zero, omega arith, ap (λ w. w.0) at)
    mapped (w ∷ vs) (suc k, l, at) = let m = mapped vs (k, omega arith, at) in (suc m.0, omega (arith, m.1), m.2)

occurs_step : (m n : ℕ) (ns : List ℕ) (b : Bool) → (m == n) ≡ b → (b || occurs ns n) ≡ true → (occurs ns n ≡ true → Contains ns n)
    → Contains (m ∷ ns) n
occurs_step m n ns true e h from = (zero, omega arith, eqb-true m n e)
occurs_step m n ns false e h from = let c = from h in (suc c.0, omega (arith, c.1), c.2)

occurs_from : (ns : List ℕ) (n : ℕ) → occurs ns n ≡ true → Contains ns n
occurs_from [] n is = absurd (true≢false (sym is))
occurs_from (m ∷ ns) n is = occurs_step m n ns (m == n) refl is (occurs_from ns n)

alike : (a b : Bool) → (a ≡ true → b ≡ true) → (b ≡ true → a ≡ true) → a ≡ b
alike true true p q = refl
alike true false p q = absurd (true≢false (sym (p refl)))
alike false true p q = absurd (true≢false (sym (q refl)))
alike false false p q = refl

-- Lists with the same numbers have each alike.
same_occurs : (ms ns : List ℕ) → ((n : ℕ) → Contains ms n ↔ Contains ns n) → (k : ℕ) → occurs ms k ≡ occurs ns k
same_occurs ms ns same k =
    alike (occurs ms k) (occurs ns k)
    (λ is. occurs_there ns k ((same k).0 (occurs_from ms k is)))
    (λ is. occurs_there ms k ((same k).1 (occurs_from ns k is)))

pub used_same : {E : Type 0} (found : Result (List ℕ) E) (ns : List ℕ) → IfOk found (λ ms. (n : ℕ) → Contains ms n ↔ Contains ns n)
    → IfOk found (λ ms. (k : ℕ) → occurs ms k ≡ occurs ns k)
used_same (Ok ms) ns same = same_occurs ms ns same
used_same (Err fault) ns same = tt
