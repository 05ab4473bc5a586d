-- How a spelled list begins, and a viable one.
use Rattle.std.proofs.Common.{◌≡◌, Bool, true, false, ◌&&◌, ◌||◌, List, [], ◌∷◌, ◌++◌, ◌⊎◌, inl, inr, refl, append_assoc}
use Rattle.og_grammar.specs.Lexeme.{Lexeme}
use Rattle.og_grammar.specs.declared.terminal.Terminal.{Terminal}
use Rattle.og_grammar.specs.Rule.{Nonterminals, Meaning, Rule, one, give, seq, alt, star, map, at, hole, same_terminal, spells, viable, EachInTurn}
use Rattle.og_grammar.specs.Reading.{Readers, sees, sees_any, nullable, first, terminals_if}
use Rattle.std.proofs.lemmas.Bool.{or_left, or_right}
use Rattle.og_grammar.proofs.TerminalSets.{sees_left, sees_right}

-- The list is empty, and the flag says that it may be; or it begins with one of the terminals, whatever
-- follows it.
abbrev pub Starts : Bool → List Terminal → List Lexeme → Type 0
Starts b ks xs = ((xs ≡ []) × (b ≡ true)) ⊎ ((rest : List Lexeme) → sees_any ks (xs ++ rest) ≡ true)

-- what is known of how each nonterminal begins
pub record Begins {N : Nonterminals} (m : Meaning N) (d : Readers N) : Type 0 where
  pub starting : (n : N.Symbol) (xs : List Lexeme) (v : N.Value n) → m.spelled n xs v → Starts false (d.tables.first_terminals n) xs
  pub beginning : (n : N.Symbol) (xs : List Lexeme) → m.begun n xs → Starts true (d.tables.first_terminals n) xs
  pub empty : (n : N.Symbol) → m.begun n []
  pub whole : (n : N.Symbol) (xs : List Lexeme) (v : N.Value n) → m.spelled n xs v → m.begun n xs
  pub fronts : (n : N.Symbol) (ts xs ys : List Lexeme) → ts ≡ xs ++ ys → m.begun n ts → m.begun n xs

starts_one : (k : Terminal) (t : Lexeme) (xs : List Lexeme) → xs ≡ t ∷ [] → same_terminal t.terminal k ≡ true → Starts false (k ∷ []) xs
unfolding sees
starts_one k t xs e s = inr (λ rest. rw e (or_left (same_terminal t.terminal k) false s))

starts_seq : (b c : Bool) (ks ls : List Terminal) (xs ys zs : List Lexeme) → xs ≡ ys ++ zs → Starts b ks ys → Starts c ls zs → Starts (b && c) (ks ++ terminals_if b ls) xs
starts_seq b c ks ls xs ys zs e (inl (p, q)) (inl (r, s)) = inl (cc, cc)
starts_seq b c ks ls xs ys zs e (inl (p, q)) (inr g) = inr (λ rest. rw (e, p, q) (sees_right ks ls (zs ++ rest) (g rest)))
starts_seq b c ks ls xs ys zs e (inr f) h = inr (λ rest. rw (e, append_assoc ys zs rest) (sees_left ks (terminals_if b ls) (ys ++ (zs ++ rest)) (f (zs ++ rest))))

starts_left : (b c : Bool) (ks ls : List Terminal) (xs : List Lexeme) → Starts b ks xs → Starts (b || c) (ks ++ ls) xs
starts_left b c ks ls xs (inl (p, q)) = inl (p, or_left b c q)
starts_left b c ks ls xs (inr f) = inr (λ rest. sees_left ks ls (xs ++ rest) (f rest))

starts_right : (b c : Bool) (ks ls : List Terminal) (xs : List Lexeme) → Starts c ls xs → Starts (b || c) (ks ++ ls) xs
starts_right b c ks ls xs (inl (p, q)) = inl (p, or_right b c q)
starts_right b c ks ls xs (inr f) = inr (λ rest. sees_right ks ls (xs ++ rest) (f rest))

starts_next : (b : Bool) (ks : List Terminal) (xs ys zs : List Lexeme) → xs ≡ ys ++ zs → Starts b ks ys → Starts true ks zs → Starts true ks xs
starts_next b ks xs ys zs e (inl (p, q)) (inl (r, s)) = inl (cc, refl)
starts_next b ks xs ys zs e (inl (p, q)) (inr g) = inr (λ rest. rw (e, p) (g rest))
starts_next b ks xs ys zs e (inr f) h = inr (λ rest. rw (e, append_assoc ys zs rest) (f (zs ++ rest)))

pub starts_each : {A : Type 0} (b : Bool) (ks : List Terminal) (f : List Lexeme → A → Type 0) → ((xs : List Lexeme) (a : A) → f xs a → Starts b ks xs)
    → (vs : List A) (xs : List Lexeme) → EachInTurn f xs vs → Starts true ks xs
starts_each b ks f item [] xs e = inl (e, refl)
starts_each b ks f item (v ∷ vs) xs (ys, zs, e, p, q) =
    starts_next b ks xs ys zs e (item ys v p) (starts_each b ks f item vs zs q)

pub starts : {N : Nonterminals} {A : Type 0} (m : Meaning N) (d : Readers N) (fb : Begins m d) (f : Rule N A) (xs : List Lexeme) (a : A) → spells m f xs a → Starts (nullable f) (first d.tables f) xs
starts m d fb (one k test) xs a p = starts_one k a xs p.0 p.1
starts m d fb (give b) xs a p = inl (p.0, refl)
starts m d fb (seq f g) xs a p =
    starts_seq (nullable f) (nullable g) (first d.tables f) (first d.tables g) xs p.0 p.1 p.2 (starts m d fb f p.0 a.0 p.3) (starts m d fb g p.1 a.1 p.4)
starts m d fb (alt f g) xs a (inl p) = starts_left (nullable f) (nullable g) (first d.tables f) (first d.tables g) xs (starts m d fb f xs a p)
starts m d fb (alt f g) xs a (inr p) = starts_right (nullable f) (nullable g) (first d.tables f) (first d.tables g) xs (starts m d fb g xs a p)
starts m d fb (star f) xs a p = starts_each (nullable f) (first d.tables f) (spells m f) (λ ys v. starts m d fb f ys v) a xs p
starts m d fb (map h f) xs a p = starts m d fb f xs p.0 p.1
starts m d fb (at f) xs a p = starts m d fb f xs a.1 p.1
starts m d fb (hole n) xs a p = fb.starting n xs a p

-- ---- viable lists

starts_or_empty : (b : Bool) (ks : List Terminal) (xs : List Lexeme) → Starts b ks xs → Starts true ks xs
starts_or_empty b ks xs (inl (p, q)) = inl (p, refl)
starts_or_empty b ks xs (inr f) = inr f

-- parts in turn, and behind them some that begin as a part does
pub starts_after : {A : Type 0} (b : Bool) (ks : List Terminal) (f : List Lexeme → A → Type 0) → ((xs : List Lexeme) (a : A) → f xs a → Starts b ks xs)
    → (vs : List A) (xs ys zs : List Lexeme) → xs ≡ ys ++ zs → EachInTurn f ys vs → Starts true ks zs → Starts true ks xs
starts_after b ks f item vs xs ys zs e p q = starts_next true ks xs ys zs e (starts_each b ks f item vs ys p) q

-- a viable list is empty, or begins with a first kind
pub viable_starts : {N : Nonterminals} {A : Type 0} (m : Meaning N) (d : Readers N) (fb : Begins m d) (f : Rule N A) (xs : List Lexeme) → viable m f xs → Starts true (first d.tables f) xs
viable_starts m d fb (one k test) xs (inl p) = inl (p, refl)
viable_starts m d fb (one k test) xs (inr (t, p)) = starts_or_empty false (k ∷ []) xs (starts_one k t xs p.0 p.1)
viable_starts m d fb (give a) xs p = inl (p, refl)
viable_starts m d fb (seq f g) xs (inl p) = starts_left true true (first d.tables f) (terminals_if (nullable f) (first d.tables g)) xs (viable_starts m d fb f xs p)
viable_starts m d fb (seq f g) xs (inr (ys, zs, a, cut, p, q)) =
    starts_or_empty (nullable f && true) (first d.tables f ++ terminals_if (nullable f) (first d.tables g)) xs
    (starts_seq (nullable f) true (first d.tables f) (first d.tables g) xs ys zs cut (starts m d fb f ys a p) (viable_starts m d fb g zs q))
viable_starts m d fb (alt f g) xs (inl p) = starts_left true true (first d.tables f) (first d.tables g) xs (viable_starts m d fb f xs p)
viable_starts m d fb (alt f g) xs (inr p) = starts_right true true (first d.tables f) (first d.tables g) xs (viable_starts m d fb g xs p)
viable_starts m d fb (star f) xs (ys, zs, vs, cut, p, q) =
    starts_after (nullable f) (first d.tables f) (spells m f) (λ us v h. starts m d fb f us v h) vs xs ys zs cut p (viable_starts m d fb f zs q)
viable_starts m d fb (map h f) xs p = viable_starts m d fb f xs p
viable_starts m d fb (at f) xs p = viable_starts m d fb f xs p
viable_starts m d fb (hole n) xs p = fb.beginning n xs p
