-- Places in lists, and names that differ.
use Rattle.std.proofs.Common.{◌≡◌, ℕ, zero, suc, ◌+◌, ◌<◌, ◌≤◌, Bool, true, false, cond, not, ltb, nat_eq, List, [], ◌∷◌, map, length, take, slice_get, get_or, Some, None, sym, ap, ◌∙◌, refl, arith, inl, inr, ◌⊎◌}
use Rattle.std.specs.Prelude.{position}
use Rattle.std.specs.List.{position_or_len}
use Rattle.std.specs.Option.{option_map}
use Rattle.std.specs.Cmp.{unsigned_Decides}
use Rattle.std.specs.Cmp.Lexicographic.{pointwise, pointwise_decides}
use Rattle.std.proofs.lemmas.Bool.{lt-ltb, le-ltb, ltb-true, ltb-false}
use Rattle.std.proofs.lemmas.List.Quantifiers.{position-Some}
use Rattle.std.proofs.lemmas.Option.{slice_get_within, slice_get-get_or, slice_get-map, slice_get_read}
use Rattle.og_native.specs.Library.{AreDistinct, IsFirstRepeat, place_of}

-- ---- places

-- the test fails at each place before n
abbrev pub Fails : {X : Type 0} → (X → Bool) → List X → ℕ → Type 0
Fails {X} p xs n = (k : ℕ) (x : X) → k < n → slice_get xs k ≡ Some x → p x ≡ false

first_len : {X : Type 0} (p : X → Bool) (xs : List X) (n : ℕ) (x : X) → Fails p xs n → slice_get xs n ≡ Some x
    → p x ≡ true → position_or_len p xs ≡ n
first_len p [] n x f s t = absurd (cc)
first_len p (y ∷ ys) zero x f s t =
    let same : p y ≡ true = (cc) in ap (λ b. cond (not b) (1 + position_or_len p ys) 0) same
first_len p (y ∷ ys) (suc n) x f s t =
    ap (λ b. cond (not b) (1 + position_or_len p ys) 0) (f 0 y (omega arith) refl)
    ∙ ap (λ m. 1 + m) (first_len p ys n x (λ k z h. f (suc k) z (omega (arith, h))) s t) ∙ (omega arith)

none_len : {X : Type 0} (p : X → Bool) (xs : List X) → Fails p xs (length xs) → position_or_len p xs ≡ length xs
none_len p [] f = refl
none_len p (y ∷ ys) f =
    ap (λ b. cond (not b) (1 + position_or_len p ys) 0) (f 0 y (omega arith) refl)
    ∙ ap (λ m. 1 + m) (none_len p ys (λ k z h. f (suc k) z (omega (arith, h)))) ∙ (omega arith)

pub first_at : {X : Type 0} (p : X → Bool) (xs : List X) (n : ℕ) (x : X) → Fails p xs n → slice_get xs n ≡ Some x
    → p x ≡ true → position p xs ≡ Some n
first_at p xs n x f s t =
    let len = first_len p xs n x f s t in
    let within = lt-ltb (position_or_len p xs) (length xs) (omega (arith, len, slice_get_within xs n x s)) in
    (λ i. cond (within i) (Some (len i)) None)

pub none_at : {X : Type 0} (p : X → Bool) (xs : List X) (n : ℕ) → length xs ≤ n → Fails p xs n
    → position p xs ≡ None
none_at p xs n h f =
    let len = none_len p xs (λ k x b. f k x (omega (arith, b, h))) in
    let past = le-ltb (position_or_len p xs) (length xs) (omega (arith, len)) in
    (λ i. cond (past i) (Some (position_or_len p xs)) None)

-- below n, or n itself
below_next : (k n : ℕ) → k < n + 1 → (k < n) ⊎ (k ≡ n)
below_next k n h = elim (ltb k n) as (λ b. ltb k n ≡ b → (k < n) ⊎ (k ≡ n)) [
  | true ↦ λ e. inl (ltb-true k n e)
  | false ↦ λ e. inr (omega (arith, h, ltb-false k n e))
] refl

pub fails_more : {X : Type 0} (p : X → Bool) (xs : List X) (n : ℕ) (x : X) → Fails p xs n → slice_get xs n ≡ Some x
    → p x ≡ false → Fails p xs (n + 1)
fails_more {X} p xs n x f s t = λ k y h e. by k y e (below_next k n h)
  where
    by : (k : ℕ) (y : X) → slice_get xs k ≡ Some y → (k < n) ⊎ (k ≡ n) → p y ≡ false
    by k y e (inl b) = f k y b e
    by k y e (inr b) = (cc)

-- what f makes of the item at i
pub map_at : {A B : Type 0} (f : A → B) (xs : List A) (i : ℕ) (x : A) → i < length xs → x ≡ get_or xs i x
    → slice_get (map f xs) i ≡ Some (f x)
map_at f xs i x h e = slice_get-map f xs i ∙ ap (option_map f) (slice_get_read xs (length xs) i x refl h e)

pub map_take : {A B : Type 0} (f : A → B) (n : ℕ) (xs : List A) → map f (take n xs) ≡ take n (map f xs)
map_take f zero xs = refl
map_take f (suc n) [] = refl
map_take f (suc n) (x ∷ xs) = ap (λ ys. f x ∷ ys) (map_take f n xs)

take_at : {X : Type 0} (xs : List X) (n i : ℕ) → i < n → slice_get (take n xs) i ≡ slice_get xs i
take_at xs zero i h = absurd (omega (arith, h))
take_at [] (suc n) i h = refl
take_at (x ∷ xs) (suc n) zero h = refl
take_at (x ∷ xs) (suc n) (suc i) h = take_at xs n i (omega (arith, h))

taken : {X : Type 0} (xs : List X) (n i : ℕ) (x : X) → slice_get (take n xs) i ≡ Some x → i < n
taken xs zero i x e = absurd (cc)
taken [] (suc n) i x e = absurd (cc)
taken (y ∷ xs) (suc n) zero x e = omega arith
taken (y ∷ xs) (suc n) (suc i) x e = let h = taken xs n i x e in omega (arith, h)

len_within : {X : Type 0} (p : X → Bool) (xs : List X) (i : ℕ) (x : X) → slice_get xs i ≡ Some x → p x ≡ true
    → position_or_len p xs < length xs
len_within p [] i x s t = absurd (cc)
len_within p (y ∷ ys) zero x s t =
    let same : p y ≡ true = (cc) in
    let none : position_or_len p (y ∷ ys) ≡ 0 = ap (λ b. cond (not b) (1 + position_or_len p ys) 0) same in
    omega (arith, none)
len_within p (y ∷ ys) (suc i) x s t = let h = len_within p ys i x s t in
    elim (p y) as (λ b. cond (not b) (1 + position_or_len p ys) 0 < length (y ∷ ys)) [
      | true ↦ omega arith
      | false ↦ omega (arith, h)
    ]

-- ---- names

itself : (name : List ℕ) → pointwise nat_eq name name ≡ true
itself name = (pointwise_decides {E = nat_eq} unsigned_Decides name name).1 refl

not_among : (names : List (List ℕ)) (name : List ℕ) (i : ℕ) → place_of name names ≡ None
    → slice_get names i ≡ Some name → ⊥
not_among names name i e s =
    let p : List ℕ → Bool = λ other. pointwise nat_eq other name in
    let there = lt-ltb (position_or_len p names) (length names) (len_within p names i name s (itself name)) in
    let found : place_of name names ≡ Some (position_or_len p names) =
    ap (λ b. cond b (Some (position_or_len p names)) None) there in
    (cc)

among : (names : List (List ℕ)) (name : List ℕ) (i : ℕ) → place_of name names ≡ Some i → slice_get names i ≡ Some name
among names name i e =
    let found = position-Some (λ other. pointwise nat_eq other name) names i [] e in
    slice_get-get_or names i [] found.0
    ∙ ap Some ((pointwise_decides {E = nat_eq} unsigned_Decides (get_or names i []) name).0 found.1)

pub repeats : (names : List (List ℕ)) (name : List ℕ) (i j : ℕ) → AreDistinct (take j names)
    → slice_get names j ≡ Some name → place_of name (take j names) ≡ Some i → IsFirstRepeat names name
repeats names name i j d s e =
    let there = among (take j names) name i e in
    let before = taken names j i name there in
    record {
      earlier = i;
      later = j;
      before = before;
      first = sym (take_at names j i before) ∙ there;
      again = s;
      distinct = d;
    }

pub stay_distinct : (names : List (List ℕ)) (name : List ℕ) (j : ℕ) → AreDistinct (take j names)
    → slice_get names j ≡ Some name → place_of name (take j names) ≡ None → AreDistinct (take (j + 1) names)
stay_distinct names name j d s e = λ i k other a b.
    by i k other (sym (take_at names (j + 1) i (taken names (j + 1) i other a)) ∙ a)
    (sym (take_at names (j + 1) k (taken names (j + 1) k other b)) ∙ b)
    (below_next i j (taken names (j + 1) i other a)) (below_next k j (taken names (j + 1) k other b))
  where
    by : (i k : ℕ) (other : List ℕ) → slice_get names i ≡ Some other → slice_get names k ≡ Some other
        → (i < j) ⊎ (i ≡ j) → (k < j) ⊎ (k ≡ j) → i ≡ k
    by i k other a b (inl h) (inl l) = d i k other (take_at names j i h ∙ a) (take_at names j k l ∙ b)
    by i k other a b (inl h) (inr l) =
        let same : other ≡ name = (cc) in
        absurd (not_among (take j names) name i e (take_at names j i h ∙ a ∙ ap Some same))
    by i k other a b (inr h) (inl l) =
        let same : other ≡ name = (cc) in
        absurd (not_among (take j names) name k e (take_at names j k l ∙ b ∙ ap Some same))
    by i k other a b (inr h) (inr l) = h ∙ sym l

pub all_distinct : (names : List (List ℕ)) (n : ℕ) → length names ≤ n → AreDistinct (take n names) → AreDistinct names
all_distinct names n h d = λ i k other a b.
    d i k other (take_at names n i (omega (arith, h, slice_get_within names i other a)) ∙ a)
    (take_at names n k (omega (arith, h, slice_get_within names k other b)) ∙ b)

pub none_distinct : (names : List (List ℕ)) → AreDistinct (take 0 names)
none_distinct names = λ i k other a b. absurd (cc)
