-- The verdict on a whole list: reading gives it, and there is one.
use Rattle.std.proofs.Common.{◌≡◌, ℕ, suc, ◌-◌, ◌<◌, ◌≤◌, true, List, [], ◌∷◌, ◌++◌, length, take, drop, Ok, Err, inl, inr, refl, sym, ap, arith, append_assoc, length-append}
use Rattle.std.proofs.lemmas.Bool.{cases_lt}
use Rattle.std.proofs.lemmas.List.{take_at, take-take, take-append-drop, length_push}
use Rattle.og_grammar.specs.Lexeme.{Lexeme}
use Rattle.og_grammar.specs.Rule.{Nonterminals, Rule, spells, viable}
use Rattle.og_grammar.specs.Reading.{Outcome, fine, read, value_at_end}
use Rattle.og_grammar.specs.Levels.{Grammar, meaning, readers, IsFine}
use Rattle.og_grammar.specs.Laws.{IsFaultAt, IsVerdict, IsDecided, IsExact}
use Rattle.og_grammar.proofs.Viable.{viable_spelled, viable_front}
use Rattle.og_grammar.proofs.Complete.{tokens_left}
use Rattle.og_grammar.proofs.TokensLeft.{passed, viable_passed}
use Rattle.og_grammar.proofs.EveryDepth.{unlimited, begins, right, whole, room_enough}
use Rattle.og_grammar.proofs.Whole.{spelled_to_end, unspelled_fault, unspelled_rest, IsSingle-rule}

-- ---- where reading stops

-- If the next token could go on, reading wouldn't have stopped before it.
refused : {N : Nonterminals} {A : Type 0} (g : Grammar N) → IsFine g → (rule : Rule N A) → fine g.tables rule ≡ true → (front rest : List Lexeme) (t : Lexeme) → tokens_left (read (unlimited g) rule (front ++ t ∷ rest)) ≡ length (t ∷ rest) → viable (meaning g) rule (front ++ t ∷ []) → ⊥
refused g e rule f front rest t stops p =
    let goes = rw (append_assoc front (t ∷ []) rest) at (viable_passed (meaning g) (unlimited g) (begins g e) (whole g e) rule f (front ++ t ∷ []) rest p) in
    absurd (omega (arith, goes, stops))

take_through : (front rest : List Lexeme) (t : Lexeme) → take (suc (length front)) (front ++ t ∷ rest) ≡ front ++ t ∷ []
take_through front rest t =
    let long : length (front ++ t ∷ []) ≡ suc (length front) = omega (arith, length_push front t) in
    rw (append_assoc front (t ∷ []) rest) at (take_at (front ++ t ∷ []) rest (suc (length front)) long)

fault_behind : {N : Nonterminals} {A : Type 0} (g : Grammar N) → IsFine g → (rule : Rule N A) → fine g.tables rule ≡ true → (ts front rest : List Lexeme) → ts ≡ front ++ rest → viable (meaning g) rule front → tokens_left (read (unlimited g) rule ts) ≡ length rest
    → ((a : A) → spells (meaning g) rule ts a → ⊥) → IsFaultAt (meaning g) rule ts (length front)
fault_behind g e rule f ts front [] cut p stops unspelled =
    let before : viable (meaning g) rule (take (length front) ts) = rw (cut, take_at front [] (length front) refl) p in
    (before, inr (omega (arith, ap length cut, length-append front []), unspelled))
fault_behind g e rule f ts front (t ∷ rest) cut p stops unspelled =
    let before : viable (meaning g) rule (take (length front) ts) = rw (cut, take_at front (t ∷ rest) (length front) refl) p in
    let through : take (suc (length front)) ts ≡ front ++ t ∷ [] = rw cut (take_through front rest t) in
    let here : tokens_left (read (unlimited g) rule (front ++ t ∷ rest)) ≡ length (t ∷ rest) = rw cut at stops in
    (before, inl (omega (arith, ap length cut, length-append front (t ∷ rest)), λ q. refused g e rule f front rest t here (rw through at q)))

fault_left : {N : Nonterminals} {A : Type 0} (g : Grammar N) → IsFine g → (rule : Rule N A) → fine g.tables rule ≡ true → (ts : List Lexeme) (left : ℕ) → tokens_left (read (unlimited g) rule ts) ≡ left → ((a : A) → spells (meaning g) rule ts a → ⊥) → IsFaultAt (meaning g) rule ts (length ts - left)
fault_left g e rule f ts left is unspelled =
    let p = passed (meaning g) (unlimited g) (begins g e) (right g e) rule ts in
    let index : length ts - left ≡ length p.front = omega (arith, is, p.long, ap length p.cut, length-append p.front p.rest) in
    rw index (fault_behind g e rule f ts p.front p.rest p.cut p.begun (sym p.long) unspelled)

pub exact_at : {N : Nonterminals} {A : Type 0} (g : Grammar N) → IsFine g → (rule : Rule N A) → fine g.tables rule ≡ true → (ts : List Lexeme) (r : Outcome A) → read (unlimited g) rule ts ≡ r → IsVerdict (meaning g) rule ts (value_at_end (length ts) r)
exact_at g e rule f ts (Ok (a, [])) is = spelled_to_end g e rule ts a is
exact_at g e rule f ts (Ok (a, t ∷ rest)) is =
    fault_left g e rule f ts (length (t ∷ rest)) (ap tokens_left is) (unspelled_rest g e rule f ts (t ∷ rest) a is (λ h. cc))
exact_at g e rule f ts (Err left) is = fault_left g e rule f ts left (ap tokens_left is) (unspelled_fault g e rule f ts left is)

pub IsExact-rule : {N : Nonterminals} {A : Type 0} (g : Grammar N) → IsFine g → (rule : Rule N A) → fine g.tables rule ≡ true → IsExact g rule
IsExact-rule g e rule f room ts less = exact_at g e rule f ts (read (readers g room) rule ts) (sym (room_enough g e rule room ts less))

-- ---- one verdict

front_viable : {N : Nonterminals} {A : Type 0} (g : Grammar N) → IsFine g → (rule : Rule N A) (ts : List Lexeme) (n : ℕ) → viable (meaning g) rule ts → viable (meaning g) rule (take n ts)
front_viable g e rule ts n p = viable_front (meaning g) (unlimited g) (begins g e) rule ts (take n ts) (drop n ts) (sym (take-append-drop n ts)) p

-- where all is spelled nothing goes wrong
no_fault : {N : Nonterminals} {A : Type 0} (g : Grammar N) → IsFine g → (rule : Rule N A) (ts : List Lexeme) (a : A) (index : ℕ) → spells (meaning g) rule ts a → IsFaultAt (meaning g) rule ts index → ⊥
no_fault g e rule ts a index p (before, inl (less, refuses)) = refuses (front_viable g e rule ts (suc index) (viable_spelled (meaning g) (unlimited g) (begins g e) rule ts a p))
no_fault g e rule ts a index p (before, inr (same, unspelled)) = unspelled a p

within_list : {N : Nonterminals} {A : Type 0} (g : Grammar N) → IsFine g → (rule : Rule N A) (ts : List Lexeme) (index : ℕ) → IsFaultAt (meaning g) rule ts index → index ≤ length ts
within_list g e rule ts index (before, inl (less, refuses)) = omega (arith, less)
within_list g e rule ts index (before, inr (same, unspelled)) = omega (arith, same)

not_before : {N : Nonterminals} {A : Type 0} (g : Grammar N) → IsFine g → (rule : Rule N A) (ts : List Lexeme) (index other : ℕ) → IsFaultAt (meaning g) rule ts index → IsFaultAt (meaning g) rule ts other → index < other → ⊥
not_before g e rule ts index other (before, inl (less, refuses)) q earlier =
    let shorter : take (suc index) (take other ts) ≡ take (suc index) ts = take-take (suc index) other ts (omega (arith, earlier)) in
    refuses (rw shorter at (front_viable g e rule (take other ts) (suc index) q.0))
not_before g e rule ts index other (before, inr (same, unspelled)) q earlier =
    let inside = within_list g e rule ts other q in
    absurd (omega (arith, inside, same, earlier))

one_index : {N : Nonterminals} {A : Type 0} (g : Grammar N) → IsFine g → (rule : Rule N A) (ts : List Lexeme) (index other : ℕ) → IsFaultAt (meaning g) rule ts index → IsFaultAt (meaning g) rule ts other → index ≡ other
one_index g e rule ts index other p q =
    elim (cases_lt index other) [
      | inl earlier ↦ absurd (not_before g e rule ts index other p q earlier)
      | inr late ↦
          elim (cases_lt other index) [
            | inl earlier ↦ absurd (not_before g e rule ts other index q p earlier)
            | inr early ↦ omega (arith, early, late)
          ]
    ]

pub IsDecided-rule : {N : Nonterminals} {A : Type 0} (g : Grammar N) → IsFine g → (rule : Rule N A) → fine g.tables rule ≡ true → IsDecided g rule
IsDecided-rule g e rule f ts (Ok a) (Ok b) p q = ap Ok (IsSingle-rule g e rule f ts a b p q)
IsDecided-rule g e rule f ts (Ok a) (Err index) p q = absurd (no_fault g e rule ts a index p q)
IsDecided-rule g e rule f ts (Err index) (Ok b) p q = absurd (no_fault g e rule ts b index q p)
IsDecided-rule g e rule f ts (Err index) (Err other) p q = ap Err (one_index g e rule ts index other p q)
