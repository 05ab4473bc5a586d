-- The tuples of several lists: how many there are, which stands where, and where one stands.
use Rattle.std.proofs.Common.{◌≡◌, ℕ, zero, suc, ◌+◌, ◌-◌, ◌*◌, ◌<◌, Bool, true, false, ◌&&◌, if◌then◌else◌, List, [], ◌∷◌, ◌++◌, length, map, ap, sym, ◌∙◌, refl, inl, inr, arith, length-append}
use Rattle.std.specs.Prelude.{slice_get, Some, None, Option}
use Rattle.std.specs.Option.{option_map}
use Rattle.std.specs.List.{flat_map}
use Rattle.std.specs.Cmp.Lexicographic.{pointwise}
use Rattle.std.proofs.lemmas.List.{length-map}
use Rattle.std.proofs.lemmas.Option.{slice_get-map, slice_get_within, slice_get_cases}
use Rattle.og_types.specs.declared.value.Value.{Value}
use Rattle.og_types.specs.Value.{same}
use Rattle.og_types.specs.Values.{place_of}

-- each of the firsts in front of each of the tails
abbrev pub product : List Value → List (List Value) → List (List Value)
product firsts tails = flat_map (λ first. map (λ others. first ∷ others) tails) firsts

pub length_product : (firsts : List Value) (tails : List (List Value)) → length (product firsts tails) ≡ length firsts * length tails
length_product [] tails = omega arith
length_product (x ∷ xs) tails = omega (arith, length-append (map (λ others. x ∷ others) tails) (product xs tails), length-map tails (λ others. x ∷ others), length_product xs tails)

slice_get_front : {X : Type 0} (xs ys : List X) (k : ℕ) → k < length xs → slice_get (xs ++ ys) k ≡ slice_get xs k
slice_get_front [] ys k h = absurd (omega arith)
slice_get_front (x ∷ xs) ys zero h = refl
slice_get_front (x ∷ xs) ys (suc k) h = slice_get_front xs ys k (omega arith)

slice_get_back : {X : Type 0} (xs ys : List X) (j k : ℕ) → k ≡ length xs + j → slice_get (xs ++ ys) k ≡ slice_get ys j
slice_get_back [] ys j k h = ap (slice_get ys) (omega arith)
slice_get_back (x ∷ xs) ys j zero h = absurd (omega arith)
slice_get_back (x ∷ xs) ys j (suc k) h = slice_get_back xs ys j k (omega arith)

-- what stands at a place
pub product_at : (firsts : List Value) (tails : List (List Value)) (i j k : ℕ) (v : Value) (vs : List Value) → slice_get firsts i ≡ Some v → slice_get tails j ≡ Some vs → k ≡ i * length tails + j → slice_get (product firsts tails) k ≡ Some (v ∷ vs)
product_at [] tails i j k v vs p q e = absurd (cc)
product_at (x ∷ xs) tails zero j k v vs p q e =
    let within : j < length tails = slice_get_within tails j vs q in
    let here : k ≡ j = omega arith in
    slice_get_front (map (λ others. x ∷ others) tails) (product xs tails) k (omega (arith, length-map tails (λ others. x ∷ others)))
    ∙ slice_get-map (λ others. x ∷ others) tails k ∙ ap (option_map (λ others. x ∷ others)) (ap (slice_get tails) here ∙ q) ∙ (let first : x ≡ v = cc in ap (λ y. Some (y ∷ vs)) first)
product_at (x ∷ xs) tails (suc i) j k v vs p q e =
    slice_get_back (map (λ others. x ∷ others) tails) (product xs tails) (i * length tails + j) k (omega (arith, length-map tails (λ others. x ∷ others)))
    ∙ product_at xs tails i j (i * length tails + j) v vs p q refl

pub mapped_from : {X Y : Type 0} (f : X → Y) (found : Option X) (y : Y) → option_map f found ≡ Some y → (x : X) × (found ≡ Some x) × (y ≡ f x)
mapped_from f None y e = absurd (cc)
mapped_from f (Some x) y e = (x, refl, cc)

-- where a tuple came from
pub record StandsAt (firsts : List Value) (tails : List (List Value)) (k : ℕ) (us : List Value) : Type 0 where
  pub first_at : ℕ
  pub rest_at : ℕ
  pub first : Value
  pub rest : List Value
  pub is : us ≡ first ∷ rest
  pub at : k ≡ first_at * length tails + rest_at
  pub first_is : slice_get firsts first_at ≡ Some first
  pub rest_is : slice_get tails rest_at ≡ Some rest

pub product_from : (firsts : List Value) (tails : List (List Value)) (k : ℕ) (us : List Value) → slice_get (product firsts tails) k ≡ Some us → StandsAt firsts tails k us
product_from [] tails k us p = absurd (cc)
product_from (x ∷ xs) tails k us p =
    let many : length (map (λ others. x ∷ others) tails) ≡ length tails = length-map tails (λ others. x ∷ others) in
    elim (slice_get_cases (map (λ others. x ∷ others) tails) k).1 [
      | inl at ↦
          let found = mapped_from (λ others. x ∷ others) (slice_get tails k) us (sym (slice_get-map (λ others. x ∷ others) tails k) ∙ sym (slice_get_front (map (λ others. x ∷ others) tails) (product xs tails) k at.1) ∙ p) in
          record { first_at = 0; rest_at = k; first = x; rest = found.0; is = found.2; at = omega arith; first_is = refl; rest_is = found.1 }
      | inr past ↦
          let after = product_from xs tails (k - length tails) us (sym (slice_get_back (map (λ others. x ∷ others) tails) (product xs tails) (k - length tails) k (omega (arith, past.0))) ∙ p) in
          record { first_at = suc after.first_at; rest_at = after.rest_at; first = after.first; rest = after.rest; is = after.is; at = omega (arith, past.0, after.at); first_is = after.first_is; rest_is = after.rest_is }
    ]

-- the first of two places that is there
abbrev first_found : Option ℕ → Option ℕ → Option ℕ
first_found None other = other
first_found (Some k) other = Some k

place_of-append : {X : Type 0} (test : X → Bool) (xs ys : List X) → place_of test (xs ++ ys) ≡ first_found (place_of test xs) (option_map (λ k. length xs + k) (place_of test ys))
place_of-append test [] ys = by (place_of test ys)
  where
    by : (found : Option ℕ) → found ≡ option_map (λ k. 0 + k) found
    by None = refl
    by (Some k) = ap Some (omega arith)
place_of-append test (x ∷ xs) ys = by (test x) (place_of test xs) (place_of test ys) (place_of test (xs ++ ys)) (place_of-append test xs ys)
  where
    by : (b : Bool) (here after all : Option ℕ) → all ≡ first_found here (option_map (λ k. length xs + k) after) → (if b then Some 0 else option_map (λ k. k + 1) all) ≡ first_found (if b then Some 0 else option_map (λ k. k + 1) here) (option_map (λ k. suc (length xs) + k) after)
    by true here after all e = refl
    by false None None all e = ap (option_map (λ k. k + 1)) e
    by false None (Some j) all e = ap (option_map (λ k. k + 1)) e ∙ ap Some (omega arith)
    by false (Some j) after all e = ap (option_map (λ k. k + 1)) e

pub place_of-map : {X Y : Type 0} (f : X → Y) (test : Y → Bool) (xs : List X) → place_of test (map f xs) ≡ place_of (λ x. test (f x)) xs
place_of-map f test [] = refl
place_of-map f test (x ∷ xs) = ap (λ found. if test (f x) then Some 0 else option_map (λ k. k + 1) found) (place_of-map f test xs)

pub place_nowhere : {X : Type 0} (test : X → Bool) (xs : List X) → ((x : X) → test x ≡ false) → place_of test xs ≡ None
place_nowhere test [] h = refl
place_nowhere test (x ∷ xs) h = (λ j. if h x j then Some 0 else option_map (λ k. k + 1) (place_of test xs)) ∙ ap (option_map (λ k. k + 1)) (place_nowhere test xs h)

-- the place of a tuple, from the places of its first and of its rest
abbrev pub together : ℕ → Option ℕ → Option ℕ → Option ℕ
together many (Some i) (Some j) = Some (i * many + j)
together many _ _ = None

place_block : (test : List Value → Bool) (b : Bool) (tails : List (List Value)) → place_of (λ others. b && test others) tails ≡ (if b then place_of test tails else None)
place_block test true tails = refl
place_block test false tails = place_nowhere (λ others. false) tails (λ others. refl)

pub place_product : (v : Value) (vs : List Value) (firsts : List Value) (tails : List (List Value)) → place_of (pointwise same (v ∷ vs)) (product firsts tails) ≡ together (length tails) (place_of (same v) firsts) (place_of (pointwise same vs) tails)
place_product v vs [] tails = refl
place_product v vs (x ∷ xs) tails =
    place_of-append (pointwise same (v ∷ vs)) (map (λ others. x ∷ others) tails) (product xs tails)
    ∙ (λ j. first_found (block j) (option_map (λ k. length-map tails (λ others. x ∷ others) j + k) (place_product v vs xs tails j)))
    ∙ by (same v x) (place_of (same v) xs) (place_of (pointwise same vs) tails)
  where
    block : place_of (pointwise same (v ∷ vs)) (map (λ others. x ∷ others) tails) ≡ (if same v x then place_of (pointwise same vs) tails else None)
    block = place_of-map (λ others. x ∷ others) (pointwise same (v ∷ vs)) tails ∙ place_block (pointwise same vs) (same v x) tails

    by : (b : Bool) (first rest : Option ℕ) → first_found (if b then rest else None) (option_map (λ k. length tails + k) (together (length tails) first rest)) ≡ together (length tails) (if b then Some 0 else option_map (λ k. k + 1) first) rest
    by true None None = refl
    by true (Some i) None = refl
    by true first (Some j) = ap Some (omega arith)
    by false None rest = refl
    by false (Some i) None = refl
    by false (Some i) (Some j) = ap Some (omega arith)

-- no tuple is empty
pub place_shorter : (firsts : List Value) (tails : List (List Value)) → place_of (pointwise same []) (product firsts tails) ≡ None
place_shorter [] tails = refl
place_shorter (x ∷ xs) tails =
    place_of-append (pointwise same []) (map (λ others. x ∷ others) tails) (product xs tails)
    ∙ (λ j. first_found (block j) (option_map (λ k. length (map (λ others. x ∷ others) tails) + k) (place_shorter xs tails j)))
  where
    block : place_of (pointwise same []) (map (λ others. x ∷ others) tails) ≡ None
    block = place_of-map (λ others. x ∷ others) (pointwise same []) tails ∙ place_nowhere (λ others. false) tails (λ others. refl)
