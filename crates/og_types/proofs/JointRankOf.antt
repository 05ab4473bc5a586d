-- The ranks of lists of values, from place to place.
use Rattle.std.proofs.Common.{◌≡◌, ◌≢◌, ℕ, ℤ, pos, zero, suc, if◌then◌else◌, ◌+◌, ◌*◌, ◌/◌, ◌<◌, ◌≤◌, min, Bool, true, false, List, [], ◌∷◌, length, get_or, drop, ap, sym, ◌∙◌, refl, arith}
use Rattle.std.specs.Prelude.{Some, None, Option, slice_get, ◌+ℤ◌}
use Rattle.std.specs.Option.{option_map}
use Rattle.std.specs.List.{list_all}
use Rattle.std.proofs.lemmas.Bool.{and_parts}
use Rattle.og_types.specs.declared.value.Value.{Value}
use Rattle.og_types.specs.declared.value.Value.TheVariants as value
use Rattle.og_types.specs.declared.ty.Ty.{Ty}
use Rattle.og_types.specs.declared.ty.Ty.TheVariants as ty
use Rattle.og_types.specs.Ty.{is_finite, bounds_fit}
use Rattle.og_types.specs.Value.{same}
use Rattle.og_types.specs.Values.{values_of, joint_values_of, capped_count, IsSmall, AreSmall, rank_of, joint_rank_of, place_of, span}
use Rattle.og_list.proofs.Drop.{drop_at, drop_got}
use Rattle.og_types.proofs.Tuples.{length_product, place_product, together, place_shorter}
use Rattle.og_types.proofs.TyLevels.{values_range, values_tuple, is_finite_tuple, bounds_fit_tuple}
use Rattle.std.proofs.Math.Nat.{mul-div_cancel_left, mul-suc, suc-mul, zero-mul}
use Rattle.std.proofs.lemmas.Nat.{row_fits}
use Rattle.std.proofs.lemmas.List.{length-map}
use Rattle.std.proofs.lemmas.List.FromFn.{length-map-range_with_len}
use Rattle.og_frac.specs.Fraction.{whole}

-- the factors of a product that isn't 0
factors : (w m r : ℕ) → w ≡ m * r → 0 < w → (0 < m) × (0 < r) × (m ≤ w) × (r ≤ w)
factors w zero r e h = absurd (omega (arith, zero-mul r))
factors w (suc m) zero e h = absurd (omega arith)
factors w (suc m) (suc r) e h = (omega arith, omega arith, omega (arith, mul-suc (suc m) r), omega (arith, suc-mul m (suc r)))

-- what all types from one on pass, that one and all after it pass
pub all_at : (test : Ty → Bool) (ts : List Ty) (i : ℕ) (t : Ty) → i < length ts → t ≡ get_or ts i t → list_all test (drop i ts) ≡ true → (test t ≡ true) × (list_all test (drop (i + 1) ts) ≡ true)
all_at test ts i t h p all = and_parts (test t) (list_all test (drop (i + 1) ts)) ((λ j. list_all test (sym (drop_at ts i t h p) j)) ∙ all)

-- what is known of a type among others, whose lists weigh this much from it on
pub record Part (ts : List Ty) (i : ℕ) (t : Ty) (weight count : ℕ) : Type 0 where
  pub small : IsSmall t
  pub count_is : count ≡ length (values_of t)
  pub some : 0 < count
  pub weighs : weight / count ≡ length (joint_values_of (drop (i + 1) ts))
  pub some_after : 0 < weight / count
  pub few_after : weight / count ≤ weight
  pub whole : count * (weight / count) ≡ weight
  pub finite_after : list_all is_finite (drop (i + 1) ts) ≡ true

pub part_at : (ts : List Ty) (i : ℕ) (t : Ty) (weight count : ℕ) → i < length ts → t ≡ get_or ts i t → list_all is_finite (drop i ts) ≡ true → weight ≡ length (joint_values_of (drop i ts)) → 0 < weight → weight ≤ 4096 → capped_count (is_finite t) (length (values_of t)) ≡ Some count → Part ts i t weight count
part_at ts i t weight count h p finite weighs some few counts =
    let both = all_at is_finite ts i t h p finite in
    let many = length (values_of t) in
    let rest = length (joint_values_of (drop (i + 1) ts)) in
    let product_is : weight ≡ many * rest = weighs ∙ (λ j. length (joint_values_of (drop_at ts i t h p j))) ∙ length_product (values_of t) (joint_values_of (drop (i + 1) ts)) in
    let parts = factors weight many rest product_is some in
    let stopped : Some (min many 4097) ≡ Some count = (λ j. capped_count (sym both.0 j) many) ∙ counts in
    let capped : min many 4097 ≡ count = cc in
    let exact : count ≡ many = omega (arith, parts.2) in
    let after : weight / count ≡ rest = (λ j. (product_is ∙ ap (λ n. n * rest) (sym exact)) j / count) ∙ mul-div_cancel_left rest (omega (arith, parts.0)) in
    record {
      small = record { finite = both.0; few = omega (arith, parts.2) };
      count_is = exact;
      some = omega (arith, parts.0);
      weighs = after;
      some_after = omega (arith, parts.1);
      few_after = omega (arith, parts.3);
      whole = ap (λ n. count * n) after ∙ ap (λ n. n * rest) exact ∙ sym product_is;
      finite_after = both.1;
    }

pub joint_rank_short : (ts : List Ty) (vs : List Value) → length ts ≢ length vs → None ≡ joint_rank_of ts vs
joint_rank_short [] [] h = absurd (h refl)
joint_rank_short [] (v ∷ vs) h = refl
joint_rank_short (t ∷ ts) [] h = sym (place_shorter (values_of t) (joint_values_of ts))
joint_rank_short (t ∷ ts) (v ∷ vs) h =
    sym (place_product v vs (values_of t) (joint_values_of ts) ∙ by (rank_of t v) (joint_rank_of ts vs) (joint_rank_short ts vs (λ e. h (omega arith))))
  where
    by : (first rest : Option ℕ) → None ≡ rest → together (length (joint_values_of ts)) first rest ≡ None
    by None rest e = refl
    by (Some i) rest e = ap (together (length (joint_values_of ts)) (Some i)) (sym e)

-- the rank from one place on, by the place of the value there and the rank after it
joint_rank_at : (ts : List Ty) (vs : List Value) (i : ℕ) (t : Ty) (v : Value) → i < length ts → t ≡ get_or ts i t → slice_get vs i ≡ Some v → joint_rank_of (drop i ts) (drop i vs) ≡ together (length (joint_values_of (drop (i + 1) ts))) (rank_of t v) (joint_rank_of (drop (i + 1) ts) (drop (i + 1) vs))
joint_rank_at ts vs i t v h p q = (λ j. joint_rank_of (drop_at ts i t h p j) (drop_got vs i v q j)) ∙ place_product v (drop (i + 1) vs) (values_of t) (joint_values_of (drop (i + 1) ts))

pub joint_rank_goes : (ts : List Ty) (vs : List Value) (i : ℕ) (t : Ty) (v : Value) (before next place weight : ℕ) → i < length ts → t ≡ get_or ts i t → slice_get vs i ≡ Some v → Some place ≡ rank_of t v → weight ≡ length (joint_values_of (drop (i + 1) ts)) → next ≡ before + place * weight → option_map (λ k. next + k) (joint_rank_of (drop (i + 1) ts) (drop (i + 1) vs)) ≡ option_map (λ k. before + k) (joint_rank_of (drop i ts) (drop i vs))
joint_rank_goes ts vs i t v before next place weight h p q r w n =
    by (joint_rank_of (drop (i + 1) ts) (drop (i + 1) vs))
    ∙ ap (option_map (λ k. before + k)) ((λ j. together (w j) (r j) (joint_rank_of (drop (i + 1) ts) (drop (i + 1) vs))) ∙ sym (joint_rank_at ts vs i t v h p q))
  where
    by : (found : Option ℕ) → option_map (λ k. next + k) found ≡ option_map (λ k. before + k) (together weight (Some place) found)
    by None = refl
    by (Some k) = ap Some (omega arith)

pub joint_rank_stops : (ts : List Ty) (vs : List Value) (i : ℕ) (t : Ty) (v : Value) (before : ℕ) → i < length ts → t ≡ get_or ts i t → slice_get vs i ≡ Some v → None ≡ rank_of t v → None ≡ option_map (λ k. before + k) (joint_rank_of (drop i ts) (drop i vs))
joint_rank_stops ts vs i t v before h p q r =
    ap (option_map (λ k. before + k)) ((λ j. together (length (joint_values_of (drop (i + 1) ts))) (r j) (joint_rank_of (drop (i + 1) ts) (drop (i + 1) vs))) ∙ sym (joint_rank_at ts vs i t v h p q))

-- a place is below the length
place_below : {X : Type 0} (test : X → Bool) (xs : List X) (k : ℕ) → Some k ≡ place_of test xs → k < length xs
place_below test [] k h = absurd (cc)
place_below test (x ∷ xs) k h = by (test x) (place_of test xs) h (place_below test xs)
  where
    by : (b : Bool) (found : Option ℕ) → Some k ≡ (if b then Some 0 else option_map (λ j. j + 1) found) → ((j : ℕ) → Some j ≡ found → j < length xs) → k < suc (length xs)
    by true found e below = let first : k ≡ 0 = cc in omega arith
    by false None e below = absurd (cc)
    by false (Some j) e below = let next : k ≡ j + 1 = cc in omega (arith, below j refl)

-- a range and a tuple of few values
pub small_range : (low high : ℤ) → IsSmall (ty.Range low high) → span low high ≤ 4096
small_range low high small =
    omega (arith, small.few, ap length (values_range low high), length-map-range_with_len (λ k. value.Number (whole (low +ℤ pos k))) 0 (span low high))

pub small_tuple : (ts : List Ty) → IsSmall (ty.Tuple ts) → AreSmall ts
small_tuple ts small = record {
  finite = sym (is_finite_tuple ts) ∙ small.finite;
  few = omega (arith, small.few, ap length (values_tuple ts), length-map (joint_values_of ts) value.Tuple);
}

-- the lists before one that begins with this value, and those that begin with it, are within the weight
pub row_at : (t : Ty) (v : Value) (place rest count weight : ℕ) → count ≡ length (values_of t) → count * rest ≡ weight → Some place ≡ rank_of t v → place * rest + rest ≤ weight
row_at t v place rest count weight count_is whole_is e =
    let below : place < length (values_of t) = place_below (same v) (values_of t) place e in
    omega (arith, whole_is, row_fits place rest count rest (omega arith) (omega arith))

pub bounds_tuple : (ts : List Ty) → bounds_fit (ty.Tuple ts) ≡ true → list_all bounds_fit ts ≡ true
bounds_tuple ts e = sym (bounds_fit_tuple ts) ∙ e
