-- What is read is spelled.
use Rattle.std.proofs.Common.{◌≡◌, ℕ, zero, suc, Bool, ◌&&◌, List, [], ◌∷◌, ◌++◌, length, Ok, Err, inl, inr, refl, sym, ◌∙◌, ap, append_assoc}
use Rattle.std.proofs.lemmas.Bool.{cases_Bool, and_parts}
use Rattle.og_grammar.specs.Lexeme.{Lexeme}
use Rattle.og_grammar.specs.declared.terminal.Terminal.{Terminal}
use Rattle.og_grammar.specs.Rule.{Nonterminals, Meaning, Rule, one, give, seq, alt, star, map, at, hole, same_terminal, spells, IsPlaceOf, WithPlace, IsToken, InTurn, EachInTurn}
use Rattle.og_grammar.specs.Reading.{Readers, sees_any, first, Outcome, and_then, with_value, read_token, read_each, read_all, read, place}

-- The tokens begin with some that are spelled for the value, and go on with the rest.
pub record Reads {A : Type 0} (f : List Lexeme → A → Type 0) (ts : List Lexeme) (a : A) (rest : List Lexeme) : Type 0 where
  pub front : List Lexeme
  pub cut : ts ≡ front ++ rest
  pub spelled : f front a

-- The list goes on with so many tokens behind a front that may begin.
pub record Passes (may_begin : List Lexeme → Type 0) (ts : List Lexeme) (left : ℕ) : Type 0 where
  pub front : List Lexeme
  pub rest : List Lexeme
  pub cut : ts ≡ front ++ rest
  pub long : length rest ≡ left
  pub begun : may_begin front

-- what is known of what each nonterminal's reader gives
pub record IsRight {N : Nonterminals} (m : Meaning N) (d : Readers N) : Type 0 where
  pub gives : (n : N.Symbol) (ts : List Lexeme) (a : N.Value n) (rest : List Lexeme) → d.reader n ts ≡ Ok (a, rest) → Reads (m.spelled n) ts a rest
  pub faults : (n : N.Symbol) (ts : List Lexeme) (left : ℕ) → d.reader n ts ≡ Err left → Passes (m.begun n) ts left

-- one outcome has one value, and one rest
pub same_value : {A : Type 0} (r : Outcome A) (a b : A) (xs ys : List Lexeme) → r ≡ Ok (a, xs) → r ≡ Ok (b, ys) → (a ≡ b) × (xs ≡ ys)
same_value {A} r a b xs ys e f =
    let p : ◌≡◌ {A = A × List Lexeme} (a, xs) (b, ys) = cc in (ap (λ q. q.0) p, ap (λ q. q.1) p)

-- a fault is no value
pub no_value : {A : Type 0} (r : Outcome A) (left : ℕ) (a : A) (rest : List Lexeme) → r ≡ Err left → r ≡ Ok (a, rest) → ⊥
no_value r left a rest e f = cc

-- what each part of two steps gave
and_then_ok : {A B : Type 0} (r : Outcome A) (g : A → List Lexeme → Outcome B) (v : B × List Lexeme) → and_then r g ≡ Ok v
    → (a : A) × (mid : List Lexeme) × (r ≡ Ok (a, mid)) × (g a mid ≡ Ok v)
and_then_ok (Ok (a, mid)) g v e = (a, mid, refl, e)
and_then_ok (Err left) g v e = cc

with_value_ok : {A B : Type 0} (h : A → B) (r : Outcome A) (b : B) (rest : List Lexeme) → with_value h r ≡ Ok (b, rest)
    → (a : A) × (r ≡ Ok (a, rest)) × (b ≡ h a)
with_value_ok h (Ok (a, mid)) b rest e =
    let parts = same_value (Ok (h a, mid)) (h a) b mid rest refl e in (a, ap (λ ts. Ok (a, ts)) parts.1, sym parts.0)
with_value_ok h (Err left) b rest e = cc

token_read : (k : Terminal) (test : Lexeme → Bool) (ts : List Lexeme) (t : Lexeme) (rest : List Lexeme) → read_token k test ts ≡ Ok (t, rest) → Reads (IsToken k test) ts t rest
unfolding read_token
token_read k test [] t rest e = cc
token_read k test (u ∷ us) t rest e =
    elim (cases_Bool (same_terminal u.terminal k && test u)) [
      | inl p ↦
          let parts = same_value (Ok (u, us)) u t us rest refl (rw p at e) in
          let both = and_parts (same_terminal u.terminal k) (test u) p in
          record { front = u ∷ []; cut = ap (λ more. u ∷ more) parts.1; spelled = rw (← parts.0) (refl, both.0, both.1) }
      | inr p ↦ absurd (no_value {A = Lexeme} (Err (length (u ∷ us))) (length (u ∷ us)) t rest refl (rw p at e))
    ]

seq_read : {A B : Type 0} (f : List Lexeme → A → Type 0) (g : List Lexeme → B → Type 0) (ts mid rest : List Lexeme) (a : A) (b : B) (v : A × B) → v ≡ (a, b)
    → Reads f ts a mid → Reads g mid b rest → Reads (InTurn f g) ts v rest
seq_read f g ts mid rest a b v e p q = record {
  front = p.front ++ q.front;
  cut = p.cut ∙ ap (λ xs. p.front ++ xs) q.cut ∙ sym (append_assoc p.front q.front rest);
  spelled = rw e (p.front, q.front, refl, p.spelled, q.spelled);
}

each_more : {A : Type 0} (f : List Lexeme → A → Type 0) (ts mid rest : List Lexeme) (a : A) (others vs : List A) → vs ≡ a ∷ others
    → Reads f ts a mid → Reads (EachInTurn f) mid others rest → Reads (EachInTurn f) ts vs rest
each_more f ts mid rest a others vs e p q = record {
  front = p.front ++ q.front;
  cut = p.cut ∙ ap (λ xs. p.front ++ xs) q.cut ∙ sym (append_assoc p.front q.front rest);
  spelled = rw e (p.front, q.front, refl, p.spelled, q.spelled);
}

each_read : {A : Type 0} (f : List Lexeme → A → Type 0) (ks : List Terminal) (item : List Lexeme → Outcome A)
    → ((ts : List Lexeme) (a : A) (rest : List Lexeme) → item ts ≡ Ok (a, rest) → Reads f ts a rest)
    → (n : ℕ) (ts : List Lexeme) (vs : List A) (rest : List Lexeme) → read_each ks item n ts ≡ Ok (vs, rest) → Reads (EachInTurn f) ts vs rest
unfolding read_each
each_read f ks item told zero ts vs rest e =
    let parts = same_value (Ok ([], ts)) [] vs ts rest refl e in record { front = []; cut = parts.1; spelled = rw (← parts.0) refl }
each_read f ks item told (suc n) ts vs rest e =
    elim (cases_Bool (sees_any ks ts)) [
      | inl p ↦
          let q = rw p at e in
          let (a, mid, one_is, others_are) = and_then_ok (item ts) _ (vs, rest) q in
          let (others, read_is, value_is) = with_value_ok (λ more. a ∷ more) (read_each ks item n mid) vs rest others_are in
          let head = told ts a mid one_is in
          let tail = each_read f ks item told n mid others rest read_is in
          each_more f ts mid rest a others vs value_is head tail
      | inr p ↦
          let parts = same_value (Ok ([], ts)) [] vs ts rest refl (rw p at e) in
          record { front = []; cut = parts.1; spelled = rw (← parts.0) refl }
    ]

place_of : (front rest ts : List Lexeme) → ts ≡ front ++ rest → IsPlaceOf front (place ts)
unfolding place
place_of [] rest ts e = tt
place_of (t ∷ front) rest ts e = rw e refl

place_read : {A : Type 0} (f : List Lexeme → A → Type 0) (ts rest : List Lexeme) (a : A) (v : ℕ × A) → v ≡ (place ts, a) → Reads f ts a rest → Reads (WithPlace f) ts v rest
place_read f ts rest a v e r = record { front = r.front; cut = r.cut; spelled = rw e (place_of r.front rest ts r.cut, r.spelled) }

pub sound : {N : Nonterminals} {A : Type 0} (m : Meaning N) (d : Readers N) (fr : IsRight m d) (f : Rule N A) (ts : List Lexeme) (a : A) (rest : List Lexeme) → read d f ts ≡ Ok (a, rest) → Reads (spells m f) ts a rest
unfolding read_all
sound m d fr (one k test) ts a rest e = token_read k test ts a rest e
sound m d fr (give b) ts a rest e =
    let parts = same_value (Ok (b, ts)) b a ts rest refl e in record { front = []; cut = parts.1; spelled = (refl, sym parts.0) }
sound m d fr (seq f g) ts v rest e =
    let (a, mid, f_is, g_is) = and_then_ok (read d f ts) _ (v, rest) e in
    let (b, read_is, value_is) = with_value_ok (λ b. (a, b)) (read d g mid) v rest g_is in
    seq_read (spells m f) (spells m g) ts mid rest a b v value_is (sound m d fr f ts a mid f_is) (sound m d fr g mid b rest read_is)
sound m d fr (alt f g) ts a rest e =
    elim (cases_Bool (sees_any (first d.tables f) ts)) [
      | inl p ↦ let r = sound m d fr f ts a rest (rw p at e) in record { front = r.front; cut = r.cut; spelled = inl r.spelled }
      | inr p ↦ let r = sound m d fr g ts a rest (rw p at e) in record { front = r.front; cut = r.cut; spelled = inr r.spelled }
    ]
sound m d fr (star f) ts a rest e = each_read (spells m f) (first d.tables f) (read d f) (λ us b after h. sound m d fr f us b after h) (length ts) ts a rest e
sound m d fr (map h f) ts b rest e =
    let (a, read_is, value_is) = with_value_ok h (read d f ts) b rest e in
    let r = sound m d fr f ts a rest read_is in
    record { front = r.front; cut = r.cut; spelled = (a, r.spelled, value_is) }
sound m d fr (at f) ts v rest e =
    let (a, read_is, value_is) = with_value_ok (λ b. (place ts, b)) (read d f ts) v rest e in
    place_read (spells m f) ts rest a v value_is (sound m d fr f ts a rest read_is)
sound m d fr (hole n) ts a rest e = fr.gives n ts a rest e
