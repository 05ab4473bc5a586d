-- Laws of lists that are compared place by place.
use Rattle.std.proofs.Common.{◌≡◌, ℕ, ◌+◌, ◌<◌, ◌≤◌, Bool, true, false, ◌&&◌, List, [], ◌∷◌, length, get_or, drop, map, inl, inr, ap, sym, ◌∙◌, refl, arith}
use Rattle.std.specs.Prelude.{slice_get, Some}
use Rattle.std.specs.Cmp.{nat_cmp_is}
use Rattle.std.specs.Cmp.Lexicographic.{pointwise, slice_cmp}
use Rattle.std.specs.declared.cmp.Ordering.{Ordering}
use Rattle.std.specs.declared.cmp.Ordering.TheVariants.{Less, Equal, Greater}
use Rattle.std.specs.Ordering.{ordering_then, is_ne, nat_cmp}
use Rattle.std.proofs.lemmas.Bool.{and_parts}
use Rattle.std.proofs.lemmas.List.{drop_all}
use Rattle.std.proofs.lemmas.Option.{slice_get_cases}
use Rattle.og_list.proofs.Drop.{drop_at, drop_got}

-- a test that is the same as another at each part
pub pointwise-map_first : {A B C : Type 0} (f : A → B) (E : B → C → Bool) → (xs : List A) (ys : List C) → pointwise E (map f xs) ys ≡ pointwise (λ x y. E (f x) y) xs ys
pointwise-map_first f E [] [] = refl
pointwise-map_first f E [] (y ∷ ys) = refl
pointwise-map_first f E (x ∷ xs) [] = refl
pointwise-map_first f E (x ∷ xs) (y ∷ ys) = ap (λ b. E (f x) y && b) (pointwise-map_first f E xs ys)

-- the lists are as long
pub pointwise_length : {A B : Type 0} (E : A → B → Bool) (xs : List A) (ys : List B) → pointwise E xs ys ≡ true → length xs ≡ length ys
pointwise_length E [] [] h = refl
pointwise_length E [] (y ∷ ys) h = absurd (cc)
pointwise_length E (x ∷ xs) [] h = absurd (cc)
pointwise_length E (x ∷ xs) (y ∷ ys) h = let both = and_parts (E x y) (pointwise E xs ys) h in omega (arith, pointwise_length E xs ys both.1)

-- the test at a place, and after it
pointwise_at : {A B : Type 0} (E : A → B → Bool) (xs : List A) (ys : List B) (i : ℕ) (x : A) (y : B) → i < length xs → x ≡ get_or xs i x → slice_get ys i ≡ Some y → pointwise E (drop i xs) (drop i ys) ≡ E x y && pointwise E (drop (i + 1) xs) (drop (i + 1) ys)
pointwise_at E xs ys i x y h p q = λ j. pointwise E (drop_at xs i x h p j) (drop_got ys i y q j)

-- a place where the test passes goes on, and one where it fails decides
pub pointwise_goes : {A B : Type 0} (E : A → B → Bool) (xs : List A) (ys : List B) (i : ℕ) (x : A) (y : B) → i < length xs → x ≡ get_or xs i x → slice_get ys i ≡ Some y → E x y ≡ true → pointwise E (drop (i + 1) xs) (drop (i + 1) ys) ≡ pointwise E (drop i xs) (drop i ys)
pointwise_goes E xs ys i x y h p q e = sym (pointwise_at E xs ys i x y h p q ∙ ap (λ b. b && pointwise E (drop (i + 1) xs) (drop (i + 1) ys)) e)

pub pointwise_stops : {A B : Type 0} (E : A → B → Bool) (xs : List A) (ys : List B) (i : ℕ) (x : A) (y : B) → i < length xs → x ≡ get_or xs i x → slice_get ys i ≡ Some y → E x y ≡ false → false ≡ pointwise E (drop i xs) (drop i ys)
pointwise_stops E xs ys i x y h p q e = sym (pointwise_at E xs ys i x y h p q ∙ ap (λ b. b && pointwise E (drop (i + 1) xs) (drop (i + 1) ys)) e)

-- the same of the order of lists
pub slice_cmp-map_first : {A B C : Type 0} (f : A → B) (R : B → C → Ordering) → (xs : List A) (ys : List C) → slice_cmp R (map f xs) ys ≡ slice_cmp (λ x y. R (f x) y) xs ys
slice_cmp-map_first f R [] [] = refl
slice_cmp-map_first f R [] (y ∷ ys) = refl
slice_cmp-map_first f R (x ∷ xs) [] = refl
slice_cmp-map_first f R (x ∷ xs) (y ∷ ys) = ap (ordering_then (R (f x) y)) (slice_cmp-map_first f R xs ys)

slice_cmp_at : {A B : Type 0} (R : A → B → Ordering) (xs : List A) (ys : List B) (i : ℕ) (x : A) (y : B) → i < length xs → x ≡ get_or xs i x → slice_get ys i ≡ Some y → slice_cmp R (drop i xs) (drop i ys) ≡ ordering_then (R x y) (slice_cmp R (drop (i + 1) xs) (drop (i + 1) ys))
slice_cmp_at R xs ys i x y h p q = λ j. slice_cmp R (drop_at xs i x h p j) (drop_got ys i y q j)

then_equal : (r o : Ordering) → is_ne r ≡ false → ordering_then r o ≡ o
then_equal Less o h = absurd (cc)
then_equal Equal o h = refl
then_equal Greater o h = absurd (cc)

then_found : (r o : Ordering) → is_ne r ≡ true → r ≡ ordering_then r o
then_found Less o h = refl
then_found Equal o h = absurd (cc)
then_found Greater o h = refl

pub slice_cmp_goes : {A B : Type 0} (R : A → B → Ordering) (xs : List A) (ys : List B) (i : ℕ) (x : A) (y : B) → i < length xs → x ≡ get_or xs i x → slice_get ys i ≡ Some y → (r : Ordering) → r ≡ R x y → is_ne r ≡ false → slice_cmp R (drop (i + 1) xs) (drop (i + 1) ys) ≡ slice_cmp R (drop i xs) (drop i ys)
slice_cmp_goes R xs ys i x y h p q r e f = sym (slice_cmp_at R xs ys i x y h p q ∙ then_equal (R x y) _ (ap is_ne (sym e) ∙ f))

pub slice_cmp_stops : {A B : Type 0} (R : A → B → Ordering) (xs : List A) (ys : List B) (i : ℕ) (x : A) (y : B) → i < length xs → x ≡ get_or xs i x → slice_get ys i ≡ Some y → (r : Ordering) → r ≡ R x y → is_ne r ≡ true → r ≡ slice_cmp R (drop i xs) (drop i ys)
slice_cmp_stops R xs ys i x y h p q r e f = e ∙ then_found (R x y) _ (ap is_ne (sym e) ∙ f) ∙ sym (slice_cmp_at R xs ys i x y h p q)

-- the first list ends first, or both end
pub slice_cmp_ended : {A B : Type 0} (R : A → B → Ordering) (xs : List A) (ys : List B) (i : ℕ) → length xs ≡ i → i ≤ length ys → nat_cmp (length xs) (length ys) ≡ slice_cmp R (drop i xs) (drop i ys)
slice_cmp_ended {A} {B} R xs ys i h k =
    let none : drop i xs ≡ [] = drop_all i xs (omega arith) in
    elim (slice_get_cases ys i).1 [
      | inl at ↦
          let shorter : Less ≡ nat_cmp (length xs) (length ys) = nat_cmp_is (length xs) (length ys) Less (omega (arith, at.1)) in
          sym shorter ∙ (λ j. slice_cmp R (sym none j) (sym (drop_got ys i at.0 at.2) j))
      | inr past ↦
          let as_long : Equal ≡ nat_cmp (length xs) (length ys) = nat_cmp_is (length xs) (length ys) Equal (omega (arith, past.0)) in
          sym as_long ∙ (λ j. slice_cmp R (sym none j) (sym (drop_all i ys past.0) j))
    ]
