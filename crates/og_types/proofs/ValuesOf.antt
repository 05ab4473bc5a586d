-- Which value stands at a place in the list of values of a type, and of several types.
use Rattle.std.proofs.Common.{◌≡◌, ℕ, ℤ, pos, zero, suc, ◌+◌, ◌*◌, ◌/◌, ◌%◌, ◌<◌, ◌≤◌, true, false, List, [], ◌∷◌, ◌++◌, length, get_or, drop, take, map, ap, sym, ◌∙◌, refl, inl, inr, append_assoc, arith}
use Rattle.std.specs.Prelude.{Some, None, Option, Result, Ok, Err, IsSome, is_some, IfOk, ◌↔◌, slice_get, ◌+ℤ◌, ◌≤ℤ◌}
use Rattle.std.specs.Option.{option_map}
use Rattle.std.specs.List.{range_with_len}
use Rattle.std.proofs.lemmas.Option.{slice_get-map, slice_get_past, slice_get_cases, slice_get_within, get_or_from_slice_get}
use Rattle.std.proofs.lemmas.List.{take_more}
use Rattle.std.proofs.lemmas.List.FromFn.{length-range_with_len}
use Rattle.og_frac.specs.Fraction.{whole}
use Rattle.og_types.specs.declared.value.Value.{Value}
use Rattle.og_types.specs.declared.value.Value.TheVariants as value
use Rattle.og_types.specs.declared.ty.Ty.{Ty}
use Rattle.og_types.specs.declared.ty.Ty.TheVariants as ty
use Rattle.og_types.specs.Values.{values_of, joint_values_of, span}
use Rattle.std.proofs.lemmas.Nat.{div-add-mod'}
use Rattle.std.proofs.Math.Nat.{div-lt_iff_lt-mul}
use Rattle.og_types.proofs.Span.{span_within, span_past}
use Rattle.og_list.proofs.Drop.{drop_at}
use Rattle.og_types.proofs.TyLevels.{values_enum, values_bool, values_range, values_tuple}
use Rattle.og_types.proofs.Tuples.{product_at}

number_at_place : (a n r : ℕ) → r < n → slice_get (range_with_len a n) r ≡ Some (a + r)
number_at_place a zero r h = absurd (omega arith)
number_at_place a (suc n) zero h = ap Some (omega arith)
number_at_place a (suc n) (suc r) h = number_at_place (a + 1) n r (omega arith) ∙ ap Some (omega arith)

pub range_map_at : (f : ℕ → Value) (n r : ℕ) → r < n → slice_get (map f (range_with_len 0 n)) r ≡ Some (f r)
range_map_at f n r h = slice_get-map f (range_with_len 0 n) r ∙ ap (option_map f) (number_at_place 0 n r h) ∙ ap (λ k. Some (f k)) (omega arith)

range_map_past : (f : ℕ → Value) (n r : ℕ) → n ≤ r → slice_get (map f (range_with_len 0 n)) r ≡ None
range_map_past f n r h = slice_get-map f (range_with_len 0 n) r ∙ ap (option_map f) (slice_get_past (range_with_len 0 n) r (omega (arith, length-range_with_len 0 n)))

pub at_enum : (family cases r : ℕ) → r < cases → Some (value.Case family r) ≡ slice_get (values_of (ty.Enum family cases)) r
at_enum family cases r h = sym ((λ j. slice_get (values_enum family cases j) r) ∙ range_map_at (λ i. value.Case family i) cases r h)

pub at_enum_past : (family cases r : ℕ) → cases ≤ r → None ≡ slice_get (values_of (ty.Enum family cases)) r
at_enum_past family cases r h = sym ((λ j. slice_get (values_enum family cases j) r) ∙ range_map_past (λ i. value.Case family i) cases r h)

pub at_bool : (r : ℕ) → slice_get (values_of ty.Bool) r ≡ slice_get (value.Flag false ∷ value.Flag true ∷ []) r
at_bool r = λ j. slice_get (values_bool j) r

pub at_range : (low high : ℤ) (r : ℕ) → (low +ℤ pos r) ≤ℤ high → Some (value.Number (whole (low +ℤ pos r))) ≡ slice_get (values_of (ty.Range low high)) r
at_range low high r h = sym ((λ j. slice_get (values_range low high j) r) ∙ range_map_at (λ k. value.Number (whole (low +ℤ pos k))) (span low high) r (span_within low high r h))

pub at_range_past : (low high : ℤ) (r : ℕ) → ((low +ℤ pos r) ≤ℤ high → ⊥) → None ≡ slice_get (values_of (ty.Range low high)) r
at_range_past low high r h = sym ((λ j. slice_get (values_range low high j) r) ∙ range_map_past (λ k. value.Number (whole (low +ℤ pos k))) (span low high) r (span_past low high r h))

pub at_tuple : (ts : List Ty) (r : ℕ) → option_map value.Tuple (slice_get (joint_values_of ts) r) ≡ slice_get (values_of (ty.Tuple ts)) r
at_tuple ts r = sym ((λ j. slice_get (values_tuple ts j) r) ∙ slice_get-map value.Tuple (joint_values_of ts) r)

-- the list at a place, by the value there and the list after it
joint_at : (ts : List Ty) (i : ℕ) (t : Ty) (v : Value) (left weight : ℕ) → i < length ts → t ≡ get_or ts i t → weight ≡ length (joint_values_of (drop (i + 1) ts)) → 0 < weight → Some v ≡ slice_get (values_of t) (left / weight) → slice_get (joint_values_of (drop i ts)) left ≡ option_map (λ vs. v ∷ vs) (slice_get (joint_values_of (drop (i + 1) ts)) (left % weight))
joint_at ts i t v left weight h p w some e =
    let tails = joint_values_of (drop (i + 1) ts) in
    (λ j. slice_get (joint_values_of (drop_at ts i t h p j)) left) ∙
    elim (slice_get_cases tails (left % weight)).1 [
      | inl at ↦
          product_at (values_of t) tails (left / weight) (left % weight) left v at.0 (sym e) at.2 (sym (ap (λ n. left / weight * n + left % weight) (sym w) ∙ div-add-mod' left weight))
          ∙ ap (option_map (λ vs. v ∷ vs)) (sym at.2)
      | inr past ↦ absurd (let short : length tails ≤ left % weight = past.0 in omega (arith, short))
    ]

-- a place among the lists leads to a place among the first type's values
pub digit_there : (t : Ty) (left weight count rest : ℕ) → count ≡ length (values_of t) → count * rest ≡ weight → left < weight → 0 < rest → None ≡ slice_get (values_of t) (left / rest) → ⊥
digit_there t left weight count rest c w h some e =
    let digit : left / rest < count = (div-lt_iff_lt-mul some).1 (omega (arith, w)) in
    elim (slice_get_cases (values_of t) (left / rest)).1 [
      | inl at ↦ let both : None ≡ Some at.0 = e ∙ at.2 in absurd (cc)
      | inr past ↦ omega (arith, past.0)
    ]

pub joint_at_goes : (ts : List Ty) (i : ℕ) (t : Ty) (v : Value) (before next : List Value) (left weight : ℕ) → i < length ts → t ≡ get_or ts i t → weight ≡ length (joint_values_of (drop (i + 1) ts)) → 0 < weight → Some v ≡ slice_get (values_of t) (left / weight) → next ≡ before ++ v ∷ [] → option_map (λ vs. next ++ vs) (slice_get (joint_values_of (drop (i + 1) ts)) (left % weight)) ≡ option_map (λ vs. before ++ vs) (slice_get (joint_values_of (drop i ts)) left)
joint_at_goes ts i t v before next left weight h p w some e n =
    by (slice_get (joint_values_of (drop (i + 1) ts)) (left % weight)) ∙ ap (option_map (λ vs. before ++ vs)) (sym (joint_at ts i t v left weight h p w some e))
  where
    by : (found : Option (List Value)) → option_map (λ vs. next ++ vs) found ≡ option_map (λ vs. before ++ vs) (option_map (λ vs. v ∷ vs) found)
    by None = refl
    by (Some vs) = ap Some (ap (λ first. first ++ vs) n ∙ append_assoc before (v ∷ []) vs)

-- one more item
pub take_goes : {X : Type 0} (xs before next : List X) (i : ℕ) (x : X) → before ≡ take i xs → next ≡ before ++ x ∷ [] → Some x ≡ slice_get xs i → next ≡ take (i + 1) xs
take_goes xs before next i x e n h =
    n ∙ ap (λ first. first ++ x ∷ []) e
    ∙ sym (take_more xs i x (slice_get_within xs i x (sym h)) ∙ ap (λ y. take i xs ++ y ∷ []) (get_or_from_slice_get xs i x x (sym h)))

some_within : {X : Type 0} (xs : List X) (i : ℕ) (found : Option X) → found ≡ slice_get xs i → IsSome found ↔ (i < length xs)
some_within xs i found e = elim (slice_get_cases xs i).1 [
  | inl at ↦ let there : found ≡ Some at.0 = e ∙ at.2 in (λ h. at.1, λ h. ap is_some there)
  | inr past ↦ let none : found ≡ None = e ∙ past.1 in (λ h. absurd (let never : false ≡ true = sym (ap is_some none) ∙ h in cc), λ h. absurd (omega (arith, past.0)))
]

-- an item is found exactly below the length
pub found_within : {X E : Type 0} (xs : List X) (i : ℕ) (result : Result (Option X) E) → IfOk result (λ found. found ≡ slice_get xs i) → IfOk result (λ found. IsSome found ↔ (i < length xs))
found_within xs i (Ok found) e = some_within xs i found e
found_within xs i (Err e) h = tt
