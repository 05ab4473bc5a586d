-- What is spelled is read, whatever follows that the rule wouldn't go on with.
use Rattle.std.proofs.Common.{◌≡◌, ℕ, zero, suc, ◌≤◌, Bool, true, false, not, ◌&&◌, List, [], ◌∷◌, ◌++◌, length, Ok, Err, inl, inr, refl, sym, ◌∙◌, ap, arith, append_assoc, length-append}
use Rattle.std.proofs.lemmas.Bool.{and_parts, not-true, false≢true}
use Rattle.og_grammar.specs.Lexeme.{Lexeme}
use Rattle.og_grammar.specs.declared.terminal.Terminal.{Terminal}
use Rattle.og_grammar.specs.Rule.{Nonterminals, Meaning, Rule, one, give, seq, alt, star, map, at, hole, spells, IsPlaceOf, IsToken, EachInTurn}
use Rattle.og_grammar.specs.Reading.{Readers, apart, terminals_if, sees_any, nullable, first, more, fine, Outcome, and_then, with_value, read_token, read_each, read_all, read, place}
use Rattle.og_grammar.proofs.TerminalSets.{sees_none, sees_apart, stops_left, stops_right}
use Rattle.og_grammar.proofs.Starts.{Starts, Begins, starts, starts_each}

-- how many tokens are left behind the value, or at the fault
abbrev pub tokens_left : {A : Type 0} → Outcome A → ℕ
tokens_left (Ok v) = length v.1
tokens_left (Err left) = left

-- what is known of what each nonterminal's reader takes
pub record IsWhole {N : Nonterminals} (m : Meaning N) (d : Readers N) : Type 0 where
  pub takes : (n : N.Symbol) (xs rest : List Lexeme) (a : N.Value n) → m.spelled n xs a → sees_any (d.tables.more_terminals n) rest ≡ false → d.reader n (xs ++ rest) ≡ Ok (a, rest)
  pub passing : (n : N.Symbol) (xs rest : List Lexeme) → m.begun n xs → tokens_left (d.reader n (xs ++ rest)) ≤ length rest
  pub fewer : (n : N.Symbol) (ts : List Lexeme) → tokens_left (d.reader n ts) ≤ length ts

pub token_again : (k : Terminal) (test : Lexeme → Bool) (xs rest : List Lexeme) (t : Lexeme) → IsToken k test xs t → read_token k test (xs ++ rest) ≡ Ok (t, rest)
unfolding read_token
token_again k test xs rest t p = rw (p.0, p.1, p.2) refl

seq_again : {A B : Type 0} (r : Outcome A) (g : List Lexeme → Outcome B) (a : A) (b : B) (mid rest : List Lexeme) → r ≡ Ok (a, mid) → g mid ≡ Ok (b, rest)
    → and_then {B = A × B} r (λ x more. with_value (λ y. (x, y)) (g more)) ≡ Ok ((a, b), rest)
seq_again r g a b mid rest p q = rw (p, q) refl

-- What is spelled behind a part doesn't go on with it, nor what comes after both.
after_part : (b : Bool) (mores firsts : List Terminal) (ys rest : List Lexeme) → apart mores firsts ≡ true → Starts b firsts ys → sees_any (terminals_if b mores) rest ≡ false → sees_any mores (ys ++ rest) ≡ false
after_part b mores firsts ys rest e (inl (p, q)) stop = let s = rw q at stop in rw p s
after_part b mores firsts ys rest e (inr f) stop = sees_apart mores firsts (ys ++ rest) e (f rest)

-- what can't be empty begins with a first kind
pub begins : (b : Bool) (ks : List Terminal) (xs rest : List Lexeme) → b ≡ false → Starts b ks xs → sees_any ks (xs ++ rest) ≡ true
begins b ks xs rest e (inl (p, q)) = cc
begins b ks xs rest e (inr f) = f rest

pub seen_length : (ks : List Terminal) (ts : List Lexeme) → sees_any ks ts ≡ true → 1 ≤ length ts
seen_length ks [] e = let none = sees_none ks in cc
seen_length ks (t ∷ ts) e = omega arith

each_again : {A : Type 0} (f : List Lexeme → A → Type 0) (item : List Lexeme → Outcome A) (b : Bool) (firsts mores : List Terminal) → b ≡ false → apart mores firsts ≡ true
    → ((xs : List Lexeme) (a : A) → f xs a → Starts b firsts xs)
    → ((xs rest : List Lexeme) (a : A) → f xs a → sees_any mores rest ≡ false → item (xs ++ rest) ≡ Ok (a, rest))
    → (vs : List A) (xs rest : List Lexeme) (n : ℕ) → EachInTurn f xs vs → sees_any mores rest ≡ false → sees_any firsts rest ≡ false → length (xs ++ rest) ≤ n
    → read_each firsts item n (xs ++ rest) ≡ Ok (vs, rest)
unfolding read_each
each_again f item b firsts mores e set begin again [] xs rest zero p s t le = rw p refl
each_again f item b firsts mores e set begin again [] xs rest (suc n) p s t le = rw (p, t) refl
each_again f item b firsts mores e set begin again (v ∷ vs) xs rest zero (ys, zs, cut, p, q) s t le =
    let seen = begins b firsts ys (zs ++ rest) e (begin ys v p) in
    let long = seen_length firsts (ys ++ (zs ++ rest)) seen in
    let same : xs ++ rest ≡ ys ++ (zs ++ rest) = rw (cut, append_assoc ys zs rest) refl in
    absurd (omega (arith, long, le, ap length same))
each_again f item b firsts mores e set begin again (v ∷ vs) xs rest (suc n) (ys, zs, cut, p, q) s t le =
    let seen = begins b firsts ys (zs ++ rest) e (begin ys v p) in
    let long = seen_length firsts (ys ++ []) (begins b firsts ys [] e (begin ys v p)) in
    let same : xs ++ rest ≡ ys ++ (zs ++ rest) = rw (cut, append_assoc ys zs rest) refl in
    let fits : length (zs ++ rest) ≤ n = omega (arith, long, le, ap length same, length-append ys (zs ++ rest), length-append ys []) in
    let stop = after_part true mores firsts zs rest set (starts_each b firsts f begin vs zs q) s in
    let one_is = again ys (zs ++ rest) v p stop in
    let others_are = each_again f item b firsts mores e set begin again vs zs rest n q s t fits in
    rw (same, seen, one_is, others_are) refl

pub seq_fine : (a b c : Bool) → (a && (b && c)) ≡ true → (a ≡ true) × (b ≡ true) × (c ≡ true)
seq_fine a b c e = let p = and_parts a (b && c) e in let q = and_parts b c p.1 in (p.0, q.0, q.1)

-- a rule of two, or three, that is fine
pub alt_fine : (a b c d : Bool) → (a && (b && (not c && d))) ≡ true → (a ≡ true) × (b ≡ true) × (c ≡ false) × (d ≡ true)
alt_fine a b c d e =
    let p = seq_fine a b (not c && d) e in let q = and_parts (not c) d p.2 in (p.0, p.1, not-true c q.0, q.1)

pub star_fine : (a b c : Bool) → (a && (not b && c)) ≡ true → (a ≡ true) × (b ≡ false) × (c ≡ true)
star_fine a b c e = let p = seq_fine a (not b) c e in (p.0, not-true b p.1, p.2)

pub at_fine : (a b : Bool) → (a && not b) ≡ true → (a ≡ true) × (b ≡ false)
at_fine a b e = let p = and_parts a (not b) e in (p.0, not-true b p.1)

-- what begins with a token has its place
same_place : (ks : List Terminal) (xs rest : List Lexeme) (n : ℕ) → sees_any ks (xs ++ []) ≡ true → IsPlaceOf xs n → place (xs ++ rest) ≡ n
unfolding place
same_place ks [] rest n seen p = let none = sees_none ks in absurd (false≢true (sym none ∙ seen))
same_place ks (t ∷ xs) rest n seen p = sym p

pub complete : {N : Nonterminals} {A : Type 0} (m : Meaning N) (d : Readers N) (fb : Begins m d) (fw : IsWhole m d) (f : Rule N A) → fine d.tables f ≡ true → (xs rest : List Lexeme) (a : A) → spells m f xs a → sees_any (more d.tables f) rest ≡ false → read d f (xs ++ rest) ≡ Ok (a, rest)
unfolding read_all
complete m d fb fw (one k test) e xs rest a p s = token_again k test xs rest a p
complete m d fb fw (give b) e xs rest a p s = rw (p.0, p.1) refl
complete m d fb fw (seq f g) e xs rest a (ys, zs, cut, p, q) s =
    let fines = seq_fine (fine d.tables f) (fine d.tables g) (apart (more d.tables f) (first d.tables g)) e in
    let stop = stops_right (more d.tables g) (terminals_if (nullable g) (more d.tables f)) rest s in
    let mid = after_part (nullable g) (more d.tables f) (first d.tables g) zs rest fines.2 (starts m d fb g zs a.1 q) stop in
    let f_is = complete m d fb fw f fines.0 ys (zs ++ rest) a.0 p mid in
    let g_is = complete m d fb fw g fines.1 zs rest a.1 q (stops_left (more d.tables g) (terminals_if (nullable g) (more d.tables f)) rest s) in
    let same : xs ++ rest ≡ ys ++ (zs ++ rest) = rw (cut, append_assoc ys zs rest) refl in
    rw same (seq_again (read d f (ys ++ (zs ++ rest))) (read d g) a.0 a.1 (zs ++ rest) rest f_is g_is)
complete m d fb fw (alt f g) e xs rest a (inl p) s =
    let fines = alt_fine (fine d.tables f) (fine d.tables g) (nullable f) (apart (first d.tables f) (first d.tables g)) e in
    let seen = begins (nullable f) (first d.tables f) xs rest fines.2 (starts m d fb f xs a p) in
    rw seen (complete m d fb fw f fines.0 xs rest a p (stops_left (more d.tables f) (more d.tables g ++ terminals_if (nullable g) (first d.tables f)) rest s))
complete m d fb fw (alt f g) e xs rest a (inr p) s =
    let fines = alt_fine (fine d.tables f) (fine d.tables g) (nullable f) (apart (first d.tables f) (first d.tables g)) e in
    let stop = stops_right (more d.tables f) (more d.tables g ++ terminals_if (nullable g) (first d.tables f)) rest s in
    let unseen = after_part (nullable g) (first d.tables f) (first d.tables g) xs rest fines.3 (starts m d fb g xs a p) (stops_right (more d.tables g) (terminals_if (nullable g) (first d.tables f)) rest stop) in
    rw unseen (complete m d fb fw g fines.1 xs rest a p (stops_left (more d.tables g) (terminals_if (nullable g) (first d.tables f)) rest stop))
complete m d fb fw (star f) e xs rest a p s =
    let fines = star_fine (fine d.tables f) (nullable f) (apart (more d.tables f) (first d.tables f)) e in
    each_again (spells m f) (read d f) (nullable f) (first d.tables f) (more d.tables f) fines.1 fines.2 (λ ys b q. starts m d fb f ys b q) (λ ys after b q stop. complete m d fb fw f fines.0 ys after b q stop)
    a xs rest (length (xs ++ rest)) p (stops_left (more d.tables f) (first d.tables f) rest s) (stops_right (more d.tables f) (first d.tables f) rest s) (omega arith)
complete m d fb fw (map h f) e xs rest a (b, p, value) s = rw (complete m d fb fw f e xs rest b p s, value) refl
complete m d fb fw (at f) e xs rest a (p, q) s =
    let fines = at_fine (fine d.tables f) (nullable f) e in
    let here = same_place (first d.tables f) xs rest a.0 (begins (nullable f) (first d.tables f) xs [] fines.1 (starts m d fb f xs a.1 q)) p in
    rw (complete m d fb fw f fines.0 xs rest a.1 q s, here) refl
complete m d fb fw (hole n) e xs rest a p s = fw.takes n xs rest a p s
