-- Nonterminals that stand in one another at most so many deep.
use Rattle.std.proofs.Common.{◌≡◌, ℕ, zero, suc, ◌+◌, ◌<◌, ◌≤◌, true, false, not, ◌||◌, if◌then◌else◌, ap, length-append, List, [], ◌∷◌, ◌++◌, length, Bool, Ok, Err, inl, inr, refl, arith}
use Rattle.std.proofs.lemmas.Bool.{cases_Bool, and_parts}
use Rattle.og_grammar.specs.Lexeme.{Lexeme}
use Rattle.og_grammar.specs.declared.terminal.Terminal.{Terminal}
use Rattle.og_grammar.specs.Rule.{Nonterminals, Meaning, Rule, one, give, seq, alt, star, map, at, hole}
use Rattle.og_grammar.specs.Reading.{Readers, Outcome, sees_any, nullable, first, and_then, with_value, read_each, read_all, read, place}
use Rattle.og_grammar.specs.Levels.{Grammar, meaning_at, reader_at, readers, guarded, IsFine}
use Rattle.og_grammar.proofs.Starts.{Starts, Begins, starts, viable_starts}
use Rattle.og_grammar.proofs.Viable.{viable_nil, viable_spelled, viable_front}
use Rattle.og_grammar.proofs.Sound.{IsRight, sound}
use Rattle.og_grammar.proofs.Complete.{IsWhole, begins, seen_length, complete}
use Rattle.og_grammar.proofs.TokensLeft.{fault_passes, never_more, viable_passed}

starts_inside : (b c : Bool) (ks ls : List Terminal) (xs : List Lexeme) → b ≡ c → ((ts : List Lexeme) → sees_any ks ts ≡ true → sees_any ls ts ≡ true) → Starts b ks xs → Starts c ls xs
starts_inside b c ks ls xs same inside (inl (p, q)) = inl (p, rw (← same) q)
starts_inside b c ks ls xs same inside (inr seen) = inr (λ rest. inside (xs ++ rest) (seen rest))

nil_front : (ts xs ys : List Lexeme) → ts ≡ xs ++ ys → ts ≡ [] → xs ≡ []
nil_front ts [] ys cut p = refl
nil_front ts (x ∷ xs) ys cut p = cc

pub begins_at : {N : Nonterminals} (g : Grammar N) → IsFine g → (j k : ℕ) → Begins (meaning_at g j) (readers g k)
begins_at g e zero k = record {
  starting = λ n xs v p. absurd p;
  beginning = λ n xs p. inl (p, refl);
  empty = λ n. refl;
  whole = λ n xs v p. absurd p;
  fronts = λ n ts xs ys cut p. nil_front ts xs ys cut p;
}
begins_at g e (suc j) k =
    let b = begins_at g e j k in
    record {
      starting = λ n xs v p. starts_inside (nullable (g.rule n)) false (first g.tables (g.rule n)) (g.tables.first_terminals n) xs (e.filled n) (λ ts seen. e.firsts n ts seen)
          (starts (meaning_at g j) (readers g k) b (g.rule n) xs v p);
      beginning = λ n xs p. starts_inside true true (first g.tables (g.rule n)) (g.tables.first_terminals n) xs refl (λ ts seen. e.firsts n ts seen)
          (viable_starts (meaning_at g j) (readers g k) b (g.rule n) xs p);
      empty = λ n. viable_nil (meaning_at g j) (readers g k) b (g.rule n);
      whole = λ n xs v p. viable_spelled (meaning_at g j) (readers g k) b (g.rule n) xs v p;
      fronts = λ n ts xs ys cut p. viable_front (meaning_at g j) (readers g k) b (g.rule n) ts xs ys cut p;
    }

pub right_at : {N : Nonterminals} (g : Grammar N) → IsFine g → (k : ℕ) → IsRight (meaning_at g k) (readers g k)
right_at g e zero = record {
  gives = λ n ts a rest p. cc;
  faults = λ n ts left p. record { front = []; rest = ts; cut = refl; long = cc; begun = refl };
}
right_at g e (suc k) = record {
  gives = λ n ts a rest p. sound (meaning_at g k) (readers g k) (right_at g e k) (g.rule n) ts a rest p;
  faults = λ n ts left p. fault_passes (meaning_at g k) (readers g k) (begins_at g e k k) (right_at g e k) (g.rule n) ts left p;
}

nothing_at : {N : Nonterminals} (g : Grammar N) → IsFine g → (k : ℕ) → IsWhole (meaning_at g 0) (readers g k)
nothing_at g e zero = record {
  takes = λ n xs rest a p s. absurd p;
  passing = λ n xs rest p. rw p (omega arith);
  fewer = λ n ts. omega arith;
}
nothing_at g e (suc k) = record {
  takes = λ n xs rest a p s. absurd p;
  passing = λ n xs rest p. rw p (never_more (meaning_at g 0) (readers g k) (nothing_at g e k) (g.rule n) rest);
  fewer = λ n ts. never_more (meaning_at g 0) (readers g k) (nothing_at g e k) (g.rule n) ts;
}

-- what is spelled so many deep is read by a reader that goes as deep
pub whole_at : {N : Nonterminals} (g : Grammar N) → IsFine g → (j k : ℕ) → j ≤ k → IsWhole (meaning_at g j) (readers g k)
whole_at g e zero k le = nothing_at g e k
whole_at g e (suc j) zero le = absurd (omega (arith, le))
whole_at g e (suc j) (suc k) le =
    let b = begins_at g e j k in
    let less : j ≤ k = omega (arith, le) in
    let w = whole_at g e j k less in
    record {
      takes = λ n xs rest a p s. complete (meaning_at g j) (readers g k) b w (g.rule n) (e.lead n) xs rest a p (e.mores n rest s);
      passing = λ n xs rest p. viable_passed (meaning_at g j) (readers g k) b w (g.rule n) (e.lead n) xs rest p;
      fewer = λ n ts. never_more (meaning_at g j) (readers g k) w (g.rule n) ts;
    }

-- ---- how deep makes no difference

and_then_same : {A B : Type 0} (r s : Outcome A) (g h : A → List Lexeme → Outcome B) → r ≡ s → ((a : A) (rest : List Lexeme) → r ≡ Ok (a, rest) → g a rest ≡ h a rest) → and_then r g ≡ and_then s h
and_then_same (Ok (a, rest)) s g h same e = rw (← same) (e a rest refl)
and_then_same (Err left) s g h same e = rw (← same) refl

-- a token more, where the flag says so
abbrev taken : Bool → ℕ
taken b = if b then 1 else 0

taken_or : (b c : Bool) (long short n : ℕ) → short ≤ long → (c ≡ false → short < long) → long + taken b ≤ n → short + taken (b || not c) ≤ n
taken_or true c long short n less strict fits = omega (arith, less, fits)
taken_or false true long short n less strict fits = omega (arith, less, fits)
taken_or false false long short n less strict fits = let s = strict refl in omega (arith, s, fits)

-- reading leaves no more tokens, and fewer where the rule takes one
shrinks : {N : Nonterminals} {A : Type 0} (m : Meaning N) (d : Readers N) (fb : Begins m d) (fr : IsRight m d) (f : Rule N A) (ts rest : List Lexeme) (a : A) → read d f ts ≡ Ok (a, rest)
    → (length rest ≤ length ts) × (nullable f ≡ false → length rest < length ts)
shrinks m d fb fr f ts rest a is =
    let r = sound m d fr f ts a rest is in
    let less : length rest ≤ length ts = omega (arith, ap length r.cut, length-append r.front rest) in (
      less,
      λ e.
          let long = seen_length (first d.tables f) (r.front ++ []) (begins (nullable f) (first d.tables f) r.front [] e (starts m d fb f r.front a r.spelled)) in
          omega (arith, long, ap length r.cut, length-append r.front rest, length-append r.front []),
    )

each_agrees : {A : Type 0} (ks : List Terminal) (item other : List Lexeme → Outcome A) (n : ℕ) → ((ts : List Lexeme) → length ts ≤ n → item ts ≡ other ts)
    → ((ts rest : List Lexeme) (a : A) → item ts ≡ Ok (a, rest) → length rest ≤ length ts)
    → (turns : ℕ) (ts : List Lexeme) → length ts ≤ n → read_each ks item turns ts ≡ read_each ks other turns ts
unfolding read_each
each_agrees ks item other n same fewer zero ts le = refl
each_agrees ks item other n same fewer (suc turns) ts le =
    let next = and_then_same (item ts) (other ts) (λ v rest. with_value (λ vs. v ∷ vs) (read_each ks item turns rest)) (λ v rest. with_value (λ vs. v ∷ vs) (read_each ks other turns rest)) (same ts le)
    (λ a rest is. let less = fewer ts rest a is in ap (with_value (λ vs. a ∷ vs)) (each_agrees ks item other n same fewer turns rest (omega (arith, less, le)))) in
    elim (cases_Bool (sees_any ks ts)) [ inl s ↦ rw s next | inr s ↦ rw s refl ]

-- readers that agree on short lists give one reading where nonterminals stand behind a token
pub agrees : {N : Nonterminals} {A : Type 0} (m : Meaning N) (d : Readers N) (fb : Begins m d) (fr : IsRight m d) (other : (n : N.Symbol) → List Lexeme → Outcome (N.Value n)) (n : ℕ)
    → ((s : N.Symbol) (ts : List Lexeme) → length ts < n → d.reader s ts ≡ other s ts)
    → (b : Bool) (f : Rule N A) → guarded b f ≡ true → (ts : List Lexeme) → length ts + taken b ≤ n → read d f ts ≡ read (record { tables = d.tables; reader = other }) f ts
unfolding read_all
agrees m d fb fr other n same b (one k test) e ts le = refl
agrees m d fb fr other n same b (give a) e ts le = refl
agrees {N} m d fb fr other n same b (seq f g) e ts le =
    let both = and_parts (guarded b f) (guarded (b || not (nullable f)) g) e in
    let s : Readers N = record { tables = d.tables; reader = other } in
    and_then_same (read d f ts) (read s f ts) (λ a rest. with_value (λ v. (a, v)) (read d g rest)) (λ a rest. with_value (λ v. (a, v)) (read s g rest))
    (agrees m d fb fr other n same b f both.0 ts le)
    (λ a rest is.
    let less = shrinks m d fb fr f ts rest a is in
    ap (with_value (λ v. (a, v))) (agrees m d fb fr other n same (b || not (nullable f)) g both.1 rest (taken_or b (nullable f) (length ts) (length rest) n less.0 less.1 le)))
agrees m d fb fr other n same b (alt f g) e ts le =
    let both = and_parts (guarded b f) (guarded b g) e in
    elim (cases_Bool (sees_any (first d.tables f) ts)) [
      | inl s ↦ rw s (agrees m d fb fr other n same b f both.0 ts le)
      | inr s ↦ rw s (agrees m d fb fr other n same b g both.1 ts le)
    ]
agrees m d fb fr other n same b (star f) e ts le =
    each_agrees (first d.tables f) (read d f) (read (record { tables = d.tables; reader = other }) f) (length ts)
    (λ us fits. agrees m d fb fr other n same b f e us (omega (arith, fits, le))) (λ us rest a is. (shrinks m d fb fr f us rest a is).0) (length ts) ts (omega arith)
agrees m d fb fr other n same b (map h f) e ts le = ap (with_value h) (agrees m d fb fr other n same b f e ts le)
agrees m d fb fr other n same b (at f) e ts le = ap (with_value (λ a. (place ts, a))) (agrees m d fb fr other n same b f e ts le)
agrees m d fb fr other n same true (hole s) e ts le = same s ts (omega (arith, le))
agrees m d fb fr other n same false (hole s) e ts le = cc

-- as many levels as tokens are enough
pub level_more : {N : Nonterminals} (g : Grammar N) → IsFine g → (k : ℕ) (n : N.Symbol) (ts : List Lexeme) → length ts < k → reader_at g k n ts ≡ reader_at g (suc k) n ts
level_more g e zero n ts le = absurd (omega (arith, le))
level_more g e (suc k) n ts le =
    agrees (meaning_at g k) (readers g k) (begins_at g e k k) (right_at g e k) (reader_at g (suc k)) k (λ s us short. level_more g e k s us short) false (g.rule n) (e.behind n) ts
    (omega (arith, le))
