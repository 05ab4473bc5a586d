-- The empty list is viable, what is spelled is, and so is each front of what is.
use Rattle.std.proofs.Common.{◌≡◌, Bool, List, [], ◌∷◌, ◌++◌, ◌⊎◌, inl, inr, refl, sym, ◌∙◌, append_assoc}
use Rattle.std.proofs.lemmas.List.{append-nil}
use Rattle.og_grammar.specs.Lexeme.{Lexeme}
use Rattle.og_grammar.specs.declared.terminal.Terminal.{Terminal}
use Rattle.og_grammar.specs.Reading.{Readers}
use Rattle.og_grammar.proofs.Starts.{Begins}
use Rattle.og_grammar.specs.Rule.{Nonterminals, Meaning, Rule, one, give, seq, alt, star, map, at, hole, spells, viable, IsToken, EachInTurn, BeginsToken, BeginsEach}

pub viable_nil : {N : Nonterminals} {A : Type 0} (m : Meaning N) (d : Readers N) (fb : Begins m d) (f : Rule N A) → viable m f []
viable_nil m d fb (one k test) = inl refl
viable_nil m d fb (give a) = refl
viable_nil m d fb (seq f g) = inl (viable_nil m d fb f)
viable_nil m d fb (alt f g) = inl (viable_nil m d fb f)
viable_nil m d fb (star f) = ([], [], [], refl, refl, viable_nil m d fb f)
viable_nil m d fb (map h f) = viable_nil m d fb f
viable_nil m d fb (at f) = viable_nil m d fb f
viable_nil m d fb (hole n) = fb.empty n

pub viable_spelled : {N : Nonterminals} {A : Type 0} (m : Meaning N) (d : Readers N) (fb : Begins m d) (f : Rule N A) (ts : List Lexeme) (a : A) → spells m f ts a → viable m f ts
viable_spelled m d fb (one k test) ts a p = inr (a, p)
viable_spelled m d fb (give b) ts a p = p.0
viable_spelled m d fb (seq f g) ts a (xs, ys, cut, p, q) = inr (xs, ys, a.0, cut, p, viable_spelled m d fb g ys a.1 q)
viable_spelled m d fb (alt f g) ts a (inl p) = inl (viable_spelled m d fb f ts a p)
viable_spelled m d fb (alt f g) ts a (inr p) = inr (viable_spelled m d fb g ts a p)
viable_spelled m d fb (star f) ts a p = (ts, [], a, sym (append-nil ts), p, viable_nil m d fb f)
viable_spelled m d fb (map h f) ts a (b, p, value) = viable_spelled m d fb f ts b p
viable_spelled m d fb (at f) ts a p = viable_spelled m d fb f ts a.1 p.1
viable_spelled m d fb (hole n) ts a p = fb.whole n ts a p

-- one whole part more in front
pub one_before : {A : Type 0} (whole : List Lexeme → A → Type 0) (begins : List Lexeme → Type 0) (us ts xs : List Lexeme) (v : A) → xs ≡ us ++ ts → whole us v
    → BeginsEach whole begins ts → BeginsEach whole begins xs
one_before whole begins us ts xs v e p (ps, qs, vs, cut, each, q) =
    let same : xs ≡ (us ++ ps) ++ qs = rw (e, cut) (sym (append_assoc us ps qs)) in
    (us ++ ps, qs, v ∷ vs, same, (us, ps, refl, p, each), q)

-- ---- fronts

-- Of two ways to cut a list, one has the front of the other within its own.
abbrev Within : List Lexeme → List Lexeme → List Lexeme → List Lexeme → Type 0
Within xs ys ps qs = (ms : List Lexeme) × (ps ≡ xs ++ ms) × (ys ≡ ms ++ qs)

within_more : (x p : Lexeme) (xs ys ps qs : List Lexeme) → x ≡ p → Within xs ys ps qs ⊎ Within ps qs xs ys → Within (x ∷ xs) ys (p ∷ ps) qs ⊎ Within (p ∷ ps) qs (x ∷ xs) ys
within_more x p xs ys ps qs e (inl (ms, more, rest)) = inl (ms, cc, rest)
within_more x p xs ys ps qs e (inr (ms, more, rest)) = inr (ms, cc, rest)

two_cuts : (xs ys ps qs : List Lexeme) → xs ++ ys ≡ ps ++ qs → Within xs ys ps qs ⊎ Within ps qs xs ys
two_cuts [] ys ps qs e = inl (ps, refl, e)
two_cuts (x ∷ xs) ys [] qs e = inr (x ∷ xs, refl, sym e)
two_cuts (x ∷ xs) ys (p ∷ ps) qs e =
    let same : x ≡ p = cc in
    let rest : xs ++ ys ≡ ps ++ qs = cc in
    within_more x p xs ys ps qs same (two_cuts xs ys ps qs rest)

-- each front of what holds does too
abbrev KeepsFronts : (List Lexeme → Type 0) → Type 0
KeepsFronts begins = (ts xs ys : List Lexeme) → ts ≡ xs ++ ys → begins ts → begins xs

nil_front : (xs ys : List Lexeme) → xs ++ ys ≡ [] → xs ≡ []
nil_front [] ys e = refl
nil_front (x ∷ xs) ys e = cc

token_front : (k : Terminal) (test : Lexeme → Bool) (xs ys : List Lexeme) (t : Lexeme) → xs ++ ys ≡ t ∷ [] → IsToken k test (t ∷ []) t → BeginsToken k test xs
token_front k test [] ys t e p = inl refl
token_front k test (x ∷ xs) ys t e p =
    let same : x ≡ t = cc in
    let none : xs ++ ys ≡ [] = cc in
    let empty = nil_front xs ys none in
    inr (t, rw (same, empty) p)

each_front : {A : Type 0} (whole : List Lexeme → A → Type 0) (begins : List Lexeme → Type 0) → ((xs : List Lexeme) (a : A) → whole xs a → begins xs) → KeepsFronts begins
    → (vs : List A) (xs ys ps qs : List Lexeme) → xs ++ ys ≡ ps ++ qs → EachInTurn whole ps vs → begins qs → BeginsEach whole begins xs
each_front whole begins spelled front [] xs ys ps qs e p q =
    let same : qs ≡ xs ++ ys = rw (e, p) refl in
    ([], xs, [], refl, refl, front qs xs ys same q)
each_front whole begins spelled front (v ∷ vs) xs ys ps qs e (us, zs, cut, p, others) q =
    let same : xs ++ ys ≡ us ++ (zs ++ qs) = rw (e, cut, append_assoc us zs qs) refl in
    elim (two_cuts xs ys us (zs ++ qs) same) [
      | inl r ↦ ([], xs, [], refl, refl, front us xs r.0 r.1 (spelled us v p))
      | inr r ↦ one_before whole begins us r.0 xs v r.1 p (each_front whole begins spelled front vs r.0 ys zs qs (sym r.2) others q)
    ]

pub viable_front : {N : Nonterminals} {A : Type 0} (m : Meaning N) (d : Readers N) (fb : Begins m d) (f : Rule N A) (ts xs ys : List Lexeme) → ts ≡ xs ++ ys → viable m f ts → viable m f xs
viable_front m d fb (one k test) ts xs ys e (inl p) = inl (nil_front xs ys (sym e ∙ p))
viable_front m d fb (one k test) ts xs ys e (inr (t, p)) = token_front k test xs ys t (sym e ∙ p.0) (refl, p.1, p.2)
viable_front m d fb (give a) ts xs ys e p = nil_front xs ys (sym e ∙ p)
viable_front m d fb (seq f g) ts xs ys e (inl p) = inl (viable_front m d fb f ts xs ys e p)
viable_front m d fb (seq f g) ts xs ys e (inr (ps, qs, a, cut, p, q)) =
    elim (two_cuts xs ys ps qs (sym e ∙ cut)) [
      | inl r ↦ inl (viable_front m d fb f ps xs r.0 r.1 (viable_spelled m d fb f ps a p))
      | inr r ↦ inr (ps, r.0, a, r.1, p, viable_front m d fb g qs r.0 ys r.2 q)
    ]
viable_front m d fb (alt f g) ts xs ys e (inl p) = inl (viable_front m d fb f ts xs ys e p)
viable_front m d fb (alt f g) ts xs ys e (inr p) = inr (viable_front m d fb g ts xs ys e p)
viable_front m d fb (star f) ts xs ys e (ps, qs, vs, cut, p, q) =
    each_front (spells m f) (viable m f) (λ us v h. viable_spelled m d fb f us v h) (λ us ws zs h b. viable_front m d fb f us ws zs h b) vs xs ys ps qs (sym e ∙ cut) p q
viable_front m d fb (map h f) ts xs ys e p = viable_front m d fb f ts xs ys e p
viable_front m d fb (at f) ts xs ys e p = viable_front m d fb f ts xs ys e p
viable_front m d fb (hole n) ts xs ys e p = fb.fronts n ts xs ys e p
