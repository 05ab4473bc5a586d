-- Where reading ends, at a value or at a fault: what it passed is viable, and it passes all that is viable.
use Rattle.std.proofs.Common.{◌≡◌, ℕ, zero, suc, ◌≤◌, Bool, true, false, ◌&&◌, List, [], ◌∷◌, ◌++◌, length, ◌⊎◌, Ok, Err, inl, inr, refl, sym, ◌∙◌, ap, arith, append_assoc, length-append}
use Rattle.std.proofs.lemmas.Bool.{cases_Bool}
use Rattle.std.proofs.lemmas.List.{append-nil}
use Rattle.og_grammar.specs.Lexeme.{Lexeme}
use Rattle.og_grammar.specs.declared.terminal.Terminal.{Terminal}
use Rattle.og_grammar.specs.Rule.{Nonterminals, Meaning, Rule, one, give, seq, alt, star, map, at, hole, same_terminal, spells, viable, EachInTurn, BeginsToken, BeginsEach}
use Rattle.og_grammar.specs.Reading.{Readers, apart, sees_any, nullable, first, more, fine, Outcome, and_then, with_value, read_token, read_each, read_all, read, place}
use Rattle.og_grammar.proofs.TerminalSets.{sees_apart}
use Rattle.og_grammar.proofs.Starts.{Starts, Begins, starts, starts_after, viable_starts}
use Rattle.og_grammar.proofs.Viable.{viable_spelled, one_before}
use Rattle.og_grammar.proofs.Sound.{Reads, Passes, IsRight, no_value, sound}
use Rattle.og_grammar.proofs.Complete.{tokens_left, IsWhole, begins, seen_length, seq_fine, alt_fine, star_fine, at_fine, token_again, complete}

-- ---- what was passed is viable

same_fault : {A : Type 0} (r : Outcome A) (m n : ℕ) → r ≡ Err m → r ≡ Err n → m ≡ n
same_fault r m n e f = cc

-- which of two steps failed
and_then_err : {A B : Type 0} (r : Outcome A) (g : A → List Lexeme → Outcome B) (left : ℕ) → and_then r g ≡ Err left
    → (r ≡ Err left) ⊎ ((a : A) × (mid : List Lexeme) × (r ≡ Ok (a, mid)) × (g a mid ≡ Err left))
and_then_err (Ok (a, mid)) g left e = inr (a, mid, refl, e)
and_then_err {A} {B} (Err n) g left e = inl (ap Err (same_fault {A = B} (Err n) n left refl e))

with_value_err : {A B : Type 0} (h : A → B) (r : Outcome A) (left : ℕ) → with_value h r ≡ Err left → r ≡ Err left
with_value_err h (Ok (a, mid)) left e = cc
with_value_err {A} {B} h (Err n) left e = ap Err (same_fault {A = B} (Err n) n left refl e)

token_fault : (k : Terminal) (test : Lexeme → Bool) (ts : List Lexeme) (left : ℕ) → read_token k test ts ≡ Err left → Passes (BeginsToken k test) ts left
unfolding read_token
token_fault k test [] left e = record { front = []; rest = []; cut = refl; long = same_fault {A = Lexeme} (Err 0) 0 left refl e; begun = inl refl }
token_fault k test (t ∷ ts) left e =
    elim (cases_Bool (same_terminal t.terminal k && test t)) [
      | inl p ↦ absurd (no_value {A = Lexeme} (Ok (t, ts)) left t ts (rw p at e) refl)
      | inr p ↦
          let long = same_fault {A = Lexeme} (Err (length (t ∷ ts))) (length (t ∷ ts)) left refl (rw p at e) in
          record { front = []; rest = t ∷ ts; cut = refl; long = long; begun = inl refl }
    ]

-- what was passed behind a part
passes_behind : {A : Type 0} (whole : List Lexeme → A → Type 0) (next may_begin : List Lexeme → Type 0) (ts mid : List Lexeme) (a : A) (left : ℕ) → Reads whole ts a mid
    → ((xs ys : List Lexeme) → whole xs a → next ys → may_begin (xs ++ ys)) → Passes next mid left → Passes may_begin ts left
passes_behind whole next may_begin ts mid a left p both q = record {
  front = p.front ++ q.front;
  rest = q.rest;
  cut = p.cut ∙ ap (λ xs. p.front ++ xs) q.cut ∙ sym (append_assoc p.front q.front q.rest);
  long = q.long;
  begun = both p.front q.front p.spelled q.begun;
}

-- another that may begin wherever the one may
passes_as : (one_may other_may : List Lexeme → Type 0) (ts : List Lexeme) (left : ℕ) → ((xs : List Lexeme) → one_may xs → other_may xs) → Passes one_may ts left → Passes other_may ts left
passes_as one_may other_may ts left same p = record { front = p.front; rest = p.rest; cut = p.cut; long = p.long; begun = same p.front p.begun }

each_fault : {A : Type 0} (whole : List Lexeme → A → Type 0) (may_begin : List Lexeme → Type 0) (ks : List Terminal) (item : List Lexeme → Outcome A)
    → ((ts : List Lexeme) (a : A) (rest : List Lexeme) → item ts ≡ Ok (a, rest) → Reads whole ts a rest)
    → ((ts : List Lexeme) (left : ℕ) → item ts ≡ Err left → Passes may_begin ts left)
    → (n : ℕ) (ts : List Lexeme) (left : ℕ) → read_each ks item n ts ≡ Err left → Passes (BeginsEach whole may_begin) ts left
unfolding read_each
each_fault {A} whole may_begin ks item told failed zero ts left e = absurd (no_value {A = List A} (Ok ([], ts)) left [] ts e refl)
each_fault {A} whole may_begin ks item told failed (suc n) ts left e =
    elim (cases_Bool (sees_any ks ts)) [
      | inl s ↦
          elim (and_then_err (item ts) (λ v rest. with_value (λ vs. v ∷ vs) (read_each ks item n rest)) left (rw s at e)) [
            | inl fails ↦
                passes_as may_begin (BeginsEach whole may_begin) ts left (λ xs p. ([], xs, [], refl, refl, p)) (failed ts left fails)
            | inr goes ↦
                let rest_fails = with_value_err (λ vs. goes.0 ∷ vs) (read_each ks item n goes.1) left goes.3 in
                let tail = each_fault whole may_begin ks item told failed n goes.1 left rest_fails in
                passes_behind whole (BeginsEach whole may_begin) (BeginsEach whole may_begin) ts goes.1 goes.0 left (told ts goes.0 goes.1 goes.2)
                (λ xs ys p q. one_before whole may_begin xs ys (xs ++ ys) goes.0 refl p q) tail
          ]
      | inr s ↦ absurd (no_value {A = List A} (Ok ([], ts)) left [] ts (rw s at e) refl)
    ]

pub fault_passes : {N : Nonterminals} {A : Type 0} (m : Meaning N) (d : Readers N) (fb : Begins m d) (fr : IsRight m d) (f : Rule N A) (ts : List Lexeme) (left : ℕ) → read d f ts ≡ Err left → Passes (viable m f) ts left
unfolding read_all
fault_passes m d fb fr (one k test) ts left e = token_fault k test ts left e
fault_passes {A} m d fb fr (give a) ts left e = absurd (no_value {A = A} (Ok (a, ts)) left a ts e refl)
fault_passes m d fb fr (seq f g) ts left e =
    elim (and_then_err (read d f ts) (λ a rest. with_value (λ b. (a, b)) (read d g rest)) left e) [
      | inl fails ↦ passes_as (viable m f) (viable m (seq f g)) ts left (λ xs p. inl p) (fault_passes m d fb fr f ts left fails)
      | inr goes ↦
          let rest_fails = with_value_err (λ b. (goes.0, b)) (read d g goes.1) left goes.3 in
          passes_behind (spells m f) (viable m g) (viable m (seq f g)) ts goes.1 goes.0 left (sound m d fr f ts goes.0 goes.1 goes.2)
          (λ xs ys p q. inr (xs, ys, goes.0, refl, p, q)) (fault_passes m d fb fr g goes.1 left rest_fails)
    ]
fault_passes m d fb fr (alt f g) ts left e =
    elim (cases_Bool (sees_any (first d.tables f) ts)) [
      | inl s ↦ passes_as (viable m f) (viable m (alt f g)) ts left (λ xs p. inl p) (fault_passes m d fb fr f ts left (rw s at e))
      | inr s ↦ passes_as (viable m g) (viable m (alt f g)) ts left (λ xs p. inr p) (fault_passes m d fb fr g ts left (rw s at e))
    ]
fault_passes m d fb fr (star f) ts left e =
    each_fault (spells m f) (viable m f) (first d.tables f) (read d f) (λ us a rest h. sound m d fr f us a rest h) (λ us n h. fault_passes m d fb fr f us n h) (length ts) ts left e
fault_passes m d fb fr (map h f) ts left e = fault_passes m d fb fr f ts left (with_value_err h (read d f ts) left e)
fault_passes m d fb fr (hole n) ts left e = fr.faults n ts left e
fault_passes m d fb fr (at f) ts left e = fault_passes m d fb fr f ts left (with_value_err (λ a. (place ts, a)) (read d f ts) left e)

passed_at : {N : Nonterminals} {A : Type 0} (m : Meaning N) (d : Readers N) (fb : Begins m d) (fr : IsRight m d) (f : Rule N A) (ts : List Lexeme) (r : Outcome A) → read d f ts ≡ r → Passes (viable m f) ts (tokens_left r)
passed_at m d fb fr f ts (Ok (a, rest)) is =
    let r = sound m d fr f ts a rest is in
    record { front = r.front; rest = rest; cut = r.cut; long = refl; begun = viable_spelled m d fb f r.front a r.spelled }
passed_at m d fb fr f ts (Err left) is = fault_passes m d fb fr f ts left is

pub passed : {N : Nonterminals} {A : Type 0} (m : Meaning N) (d : Readers N) (fb : Begins m d) (fr : IsRight m d) (f : Rule N A) (ts : List Lexeme) → Passes (viable m f) ts (tokens_left (read d f ts))
passed m d fb fr f ts = passed_at m d fb fr f ts (read d f ts) refl

-- ---- what is viable is passed

-- another value changes nothing of what is left
with_value_fits : {A B : Type 0} (h : A → B) (r : Outcome A) (m : ℕ) → tokens_left r ≤ m → tokens_left (with_value h r) ≤ m
with_value_fits h (Ok (a, rest)) m le = le
with_value_fits h (Err left) m le = le

-- a step that leaves no more than it is given, behind one that leaves at most so many
and_then_left : {A B : Type 0} (r : Outcome A) (g : A → List Lexeme → Outcome B) (m : ℕ) → tokens_left r ≤ m
    → ((a : A) (mid : List Lexeme) → tokens_left (g a mid) ≤ length mid) → tokens_left (and_then r g) ≤ m
and_then_left (Ok (a, mid)) g m le each = let less = each a mid in omega (arith, less, le)
and_then_left (Err left) g m le each = le

value_left : {A : Type 0} (r : Outcome A) (a : A) (rest : List Lexeme) → r ≡ Ok (a, rest) → tokens_left r ≤ length rest
value_left r a rest e = let fits : length rest ≤ length rest = omega arith in rw e fits

second_left : {A B : Type 0} (r : Outcome A) (g : List Lexeme → Outcome B) (a : A) (mid : List Lexeme) (m : ℕ) → r ≡ Ok (a, mid) → tokens_left (g mid) ≤ m
    → tokens_left (and_then {B = A × B} r (λ x rest. with_value (λ y. (x, y)) (g rest))) ≤ m
second_left r g a mid m e le = rw e (with_value_fits (λ y. (a, y)) (g mid) m le)

each_never_more : {A : Type 0} (ks : List Terminal) (item : List Lexeme → Outcome A) → ((ts : List Lexeme) → tokens_left (item ts) ≤ length ts)
    → (n : ℕ) (ts : List Lexeme) → tokens_left (read_each ks item n ts) ≤ length ts
unfolding read_each
each_never_more ks item fewer zero ts = omega arith
each_never_more ks item fewer (suc n) ts =
    elim (cases_Bool (sees_any ks ts)) [
      | inl s ↦
          rw s (and_then_left (item ts) (λ v rest. with_value (λ vs. v ∷ vs) (read_each ks item n rest)) (length ts) (fewer ts)
          (λ v mid. with_value_fits (λ vs. v ∷ vs) (read_each ks item n mid) (length mid) (each_never_more ks item fewer n mid)))
      | inr s ↦ let fits : length ts ≤ length ts = omega arith in rw s fits
    ]

token_never_more : (k : Terminal) (test : Lexeme → Bool) (ts : List Lexeme) → tokens_left (read_token k test ts) ≤ length ts
unfolding read_token
token_never_more k test [] = omega arith
token_never_more k test (t ∷ ts) =
    elim (cases_Bool (same_terminal t.terminal k && test t)) [
      | inl p ↦ let fits : length ts ≤ length (t ∷ ts) = omega arith in rw p fits
      | inr p ↦ let fits : length (t ∷ ts) ≤ length (t ∷ ts) = omega arith in rw p fits
    ]

-- reading never adds a token
pub never_more : {N : Nonterminals} {A : Type 0} (m : Meaning N) (d : Readers N) (fw : IsWhole m d) (f : Rule N A) (ts : List Lexeme) → tokens_left (read d f ts) ≤ length ts
unfolding read_all
never_more m d fw (one k test) ts = token_never_more k test ts
never_more m d fw (give a) ts = omega arith
never_more m d fw (seq f g) ts =
    and_then_left (read d f ts) (λ a mid. with_value (λ b. (a, b)) (read d g mid)) (length ts) (never_more m d fw f ts)
    (λ a mid. with_value_fits (λ b. (a, b)) (read d g mid) (length mid) (never_more m d fw g mid))
never_more m d fw (alt f g) ts =
    elim (cases_Bool (sees_any (first d.tables f) ts)) [ inl s ↦ rw s (never_more m d fw f ts) | inr s ↦ rw s (never_more m d fw g ts) ]
never_more m d fw (star f) ts = each_never_more (first d.tables f) (read d f) (λ us. never_more m d fw f us) (length ts) ts
never_more m d fw (map h f) ts = with_value_fits h (read d f ts) (length ts) (never_more m d fw f ts)
never_more m d fw (at f) ts = with_value_fits (λ a. (place ts, a)) (read d f ts) (length ts) (never_more m d fw f ts)
never_more m d fw (hole n) ts = fw.fewer n ts

-- What the laws of a repetition need of its part.
record Part {A : Type 0} (whole : List Lexeme → A → Type 0) (may_begin : List Lexeme → Type 0) (item : List Lexeme → Outcome A) (b : Bool) (firsts mores : List Terminal) : Type 0 where
  pub filled : b ≡ false
  pub set : apart mores firsts ≡ true
  pub starting : (xs : List Lexeme) (a : A) → whole xs a → Starts b firsts xs
  pub beginning : (xs : List Lexeme) → may_begin xs → Starts true firsts xs
  pub again : (xs rest : List Lexeme) (a : A) → whole xs a → sees_any mores rest ≡ false → item (xs ++ rest) ≡ Ok (a, rest)
  pub spelled : (xs : List Lexeme) (a : A) → whole xs a → may_begin xs
  pub passing : (xs rest : List Lexeme) → may_begin xs → tokens_left (item (xs ++ rest)) ≤ length rest
  pub fewer : (ts : List Lexeme) → tokens_left (item ts) ≤ length ts

-- the last part, of which perhaps only the front is there
last_left : {A : Type 0} (whole : List Lexeme → A → Type 0) (may_begin : List Lexeme → Type 0) (item : List Lexeme → Outcome A) (b : Bool) (firsts mores : List Terminal) → Part whole may_begin item b firsts mores
    → (xs rest : List Lexeme) (n : ℕ) → may_begin xs → Starts true firsts xs → length (xs ++ rest) ≤ n → tokens_left (read_each firsts item n (xs ++ rest)) ≤ length rest
unfolding read_each
last_left whole may_begin item b firsts mores part xs rest n p (inl (none, q)) le = rw none (each_never_more firsts item part.fewer n rest)
last_left whole may_begin item b firsts mores part xs rest zero p (inr seen) le = omega (arith, le)
last_left whole may_begin item b firsts mores part xs rest (suc n) p (inr seen) le =
    rw (seen rest) (and_then_left (item (xs ++ rest)) (λ v after. with_value (λ vs. v ∷ vs) (read_each firsts item n after)) (length rest) (part.passing xs rest p)
    (λ v mid. with_value_fits (λ vs. v ∷ vs) (read_each firsts item n mid) (length mid) (each_never_more firsts item part.fewer n mid)))

each_left : {A : Type 0} (whole : List Lexeme → A → Type 0) (may_begin : List Lexeme → Type 0) (item : List Lexeme → Outcome A) (b : Bool) (firsts mores : List Terminal) → Part whole may_begin item b firsts mores
    → (vs : List A) (xs ys zs rest : List Lexeme) (n : ℕ) → xs ≡ ys ++ zs → EachInTurn whole ys vs → may_begin zs → length (xs ++ rest) ≤ n
    → tokens_left (read_each firsts item n (xs ++ rest)) ≤ length rest
unfolding read_each
each_left whole may_begin item b firsts mores part [] xs ys zs rest n cut p q le =
    let same : xs ≡ zs = rw (cut, p) refl in
    let begun : may_begin xs = rw same q in
    last_left whole may_begin item b firsts mores part xs rest n begun (part.beginning xs begun) le
each_left whole may_begin item b firsts mores part (v ∷ vs) xs ys zs rest zero cut p q le = omega (arith, le)
each_left whole may_begin item b firsts mores part (v ∷ vs) xs ys zs rest (suc n) cut (us, ws, in_two, p, others) q le =
    let same : xs ≡ us ++ (ws ++ zs) = rw (cut, in_two) (append_assoc us ws zs) in
    elim (starts_after b firsts whole part.starting vs (ws ++ zs) ws zs refl others (part.beginning zs q)) [
      | inl none ↦
          let alone : xs ≡ us = rw (same, none.0) (append-nil us) in
          let begun : may_begin xs = rw alone (part.spelled us v p) in
          last_left whole may_begin item b firsts mores part xs rest (suc n) begun (part.beginning xs begun) le
      | inr seen ↦
          let now_seen = begins b firsts us ((ws ++ zs) ++ rest) part.filled (part.starting us v p) in
          let long = seen_length firsts (us ++ []) (begins b firsts us [] part.filled (part.starting us v p)) in
          let all : xs ++ rest ≡ us ++ ((ws ++ zs) ++ rest) = rw (same, append_assoc us (ws ++ zs) rest) refl in
          let fits : length ((ws ++ zs) ++ rest) ≤ n = omega (arith, long, le, ap length all, length-append us ((ws ++ zs) ++ rest), length-append us []) in
          let one_is = part.again us ((ws ++ zs) ++ rest) v p (sees_apart mores firsts ((ws ++ zs) ++ rest) part.set (seen rest)) in
          let others_left = each_left whole may_begin item b firsts mores part vs (ws ++ zs) ws zs rest n refl others q fits in
          rw (all, now_seen, one_is) (with_value_fits (λ us. v ∷ us) (read_each firsts item n ((ws ++ zs) ++ rest)) (length rest) others_left)
    ]

-- nothing begins anything
nothing_left : {N : Nonterminals} {A : Type 0} (m : Meaning N) (d : Readers N) (fw : IsWhole m d) (f : Rule N A) (xs rest : List Lexeme) → xs ≡ [] → tokens_left (read d f (xs ++ rest)) ≤ length rest
nothing_left m d fw f xs rest none = rw none (never_more m d fw f rest)

-- Where a list is viable, reading it and what follows goes through it: it neither ends nor fails before.
pub viable_passed : {N : Nonterminals} {A : Type 0} (m : Meaning N) (d : Readers N) (fb : Begins m d) (fw : IsWhole m d) (f : Rule N A) → fine d.tables f ≡ true → (xs rest : List Lexeme) → viable m f xs → tokens_left (read d f (xs ++ rest)) ≤ length rest
unfolding read_all
viable_passed m d fb fw (one k test) e xs rest (inl none) = nothing_left m d fw (one k test) xs rest none
viable_passed m d fb fw (one k test) e xs rest (inr (t, p)) = value_left (read_token k test (xs ++ rest)) t rest (token_again k test xs rest t p)
viable_passed m d fb fw (give a) e xs rest none = nothing_left m d fw (give a) xs rest none
viable_passed m d fb fw (seq f g) e xs rest (inl p) =
    let fines = seq_fine (fine d.tables f) (fine d.tables g) (apart (more d.tables f) (first d.tables g)) e in
    and_then_left (read d f (xs ++ rest)) (λ a mid. with_value (λ b. (a, b)) (read d g mid)) (length rest) (viable_passed m d fb fw f fines.0 xs rest p)
    (λ a mid. with_value_fits (λ b. (a, b)) (read d g mid) (length mid) (never_more m d fw g mid))
viable_passed m d fb fw (seq f g) e xs rest (inr (ys, zs, a, cut, p, q)) =
    let fines = seq_fine (fine d.tables f) (fine d.tables g) (apart (more d.tables f) (first d.tables g)) e in
    elim (viable_starts m d fb g zs q) [
      | inl none ↦
          let same : xs ≡ ys = rw (cut, none.0) (append-nil ys) in
          let begun : viable m f xs = rw same (viable_spelled m d fb f ys a p) in
          and_then_left (read d f (xs ++ rest)) (λ b mid. with_value (λ c. (b, c)) (read d g mid)) (length rest) (viable_passed m d fb fw f fines.0 xs rest begun)
          (λ b mid. with_value_fits (λ c. (b, c)) (read d g mid) (length mid) (never_more m d fw g mid))
      | inr seen ↦
          let f_is = complete m d fb fw f fines.0 ys (zs ++ rest) a p (sees_apart (more d.tables f) (first d.tables g) (zs ++ rest) fines.2 (seen rest)) in
          let same : xs ++ rest ≡ ys ++ (zs ++ rest) = rw (cut, append_assoc ys zs rest) refl in
          rw same (second_left (read d f (ys ++ (zs ++ rest))) (read d g) a (zs ++ rest) (length rest) f_is (viable_passed m d fb fw g fines.1 zs rest q))
    ]
viable_passed m d fb fw (alt f g) e xs rest (inl p) =
    let fines = alt_fine (fine d.tables f) (fine d.tables g) (nullable f) (apart (first d.tables f) (first d.tables g)) e in
    elim (viable_starts m d fb f xs p) [
      | inl none ↦ nothing_left m d fw (alt f g) xs rest none.0
      | inr seen ↦ rw (seen rest) (viable_passed m d fb fw f fines.0 xs rest p)
    ]
viable_passed m d fb fw (alt f g) e xs rest (inr p) =
    let fines = alt_fine (fine d.tables f) (fine d.tables g) (nullable f) (apart (first d.tables f) (first d.tables g)) e in
    elim (viable_starts m d fb g xs p) [
      | inl none ↦ nothing_left m d fw (alt f g) xs rest none.0
      | inr seen ↦ rw (sees_apart (first d.tables f) (first d.tables g) (xs ++ rest) fines.3 (seen rest)) (viable_passed m d fb fw g fines.1 xs rest p)
    ]
viable_passed m d fb fw (star f) e xs rest (ys, zs, vs, cut, p, q) =
    let fines = star_fine (fine d.tables f) (nullable f) (apart (more d.tables f) (first d.tables f)) e in
    let part : Part (spells m f) (viable m f) (read d f) (nullable f) (first d.tables f) (more d.tables f) = record {
      filled = fines.1;
      set = fines.2;
      starting = λ us v h. starts m d fb f us v h;
      beginning = λ us h. viable_starts m d fb f us h;
      again = λ us after v h stop. complete m d fb fw f fines.0 us after v h stop;
      spelled = λ us v h. viable_spelled m d fb f us v h;
      passing = λ us after h. viable_passed m d fb fw f fines.0 us after h;
      fewer = λ us. never_more m d fw f us;
    } in
    each_left (spells m f) (viable m f) (read d f) (nullable f) (first d.tables f) (more d.tables f) part vs xs ys zs rest (length (xs ++ rest)) cut p q (omega arith)
viable_passed m d fb fw (map h f) e xs rest p = with_value_fits h (read d f (xs ++ rest)) (length rest) (viable_passed m d fb fw f e xs rest p)
viable_passed m d fb fw (at f) e xs rest p =
    with_value_fits (λ a. (place (xs ++ rest), a)) (read d f (xs ++ rest)) (length rest) (viable_passed m d fb fw f (at_fine (fine d.tables f) (nullable f) e).0 xs rest p)
viable_passed m d fb fw (hole n) e xs rest p = fw.passing n xs rest p
