-- A rank is a place in the list.
use Rattle.std.proofs.Common.{◌≡◌, ◌≢◌, ℕ, ℤ, pos, zero, suc, ◌+◌, ◌*◌, ◌<◌, Bool, true, false, ◌&&◌, ◌==◌, if◌then◌else◌, nat_lt, List, [], ◌∷◌, length, get_or, map, ap, sym, subst, ◌∙◌, refl, arith}
use Rattle.std.specs.Prelude.{Some, None, Option, slice_get, is_some, Contains, AllPairs, ◌↔◌, ◌+ℤ◌, ◌*ℤ◌, int_le}
use Rattle.std.specs.Option.{option_map}
use Rattle.std.specs.Int.{int_gap}
use Rattle.std.specs.List.{AllByRecursion, list_all, range_with_len}
use Rattle.std.specs.Cmp.Lexicographic.{pointwise, pointwise_decides, slice_cmp}
use Rattle.std.specs.Ordering.{nat_cmp, bool_cmp, ordering_then, ordering_reverse}
use Rattle.std.specs.Cmp.{nat_cmp_is}
use Rattle.std.specs.declared.cmp.Ordering.{Ordering}
use Rattle.std.specs.declared.cmp.Ordering.TheVariants.{Less, Equal, Greater}
use Rattle.std.proofs.lemmas.Bool.Decides.{nat_tests}
use Rattle.std.proofs.lemmas.Nat.{row_fits}
use Rattle.std.proofs.lemmas.Int.{ints}
use Rattle.std.proofs.lemmas.List.FromFn.{length-map-range_with_len}
use Rattle.std.proofs.lemmas.Option.{slice_get_within, slice_get-map, slice_get-get_or, get_or_from_slice_get}
use Rattle.std.proofs.lemmas.Cmp.{nat_cmp_total, tied_itself}
use Rattle.std.proofs.lemmas.Bool.{and_parts}
use Rattle.og_frac.specs.Fraction as fraction
use Rattle.og_frac.specs.Fraction.{Fraction, whole, over_positive}
use Rattle.og_frac.specs.laws.Orders.{order_less, order_equal, order_reversed}
use Rattle.og_types.specs.declared.value.Value.{Value}
use Rattle.og_types.specs.declared.value.Value.TheOpen.{Value-F}
use Rattle.og_types.specs.declared.value.Value.TheOpen as val
use Rattle.og_types.specs.declared.value.Value.TheViews.{out-Value}
use Rattle.og_types.specs.declared.value.Value.TheVariants as value
use Rattle.og_types.specs.declared.ty.Ty.{Ty}
use Rattle.og_types.specs.declared.ty.Ty.TheOpen.{Ty-F}
use Rattle.og_types.specs.declared.ty.Ty.TheOpen as one
use Rattle.og_types.specs.declared.ty.Ty.TheViews.{roll-Ty, out-roll-Ty}
use Rattle.og_types.specs.declared.ty.Ty.TheFolds.{fold-roll-Ty, map-Ty, ind-Ty}
use Rattle.og_types.specs.declared.ty.Ty.TheVariants as ty
use Rattle.og_types.specs.Ty.{holds, holds_step, is_finite, is_finite_step, is_between}
use Rattle.og_types.specs.Value.{same, order}
use Rattle.og_types.proofs.FitsLaws.{holds_at}
use Rattle.og_types.proofs.ValueLevels.{order_numbers, order_cases, order_flags, order_tuples}
use Rattle.og_types.specs.laws.ValueEquality.{same_equal, same_decides}
use Rattle.og_types.specs.Values.{values_of, joint_values_of, rank_of, joint_rank_of, place_of, span, IsSmall, AreSmall}
use Rattle.og_types.specs.laws.Induction.{type_induction}
use Rattle.og_types.proofs.TyLevels.{values_enum, values_bool, values_range, values_tuple, values_number}
use Rattle.og_types.proofs.Tuples.{product_from, place_product, place_shorter, mapped_from, together}
use Rattle.og_types.proofs.ValuesOf.{range_map_at}
use Rattle.og_types.proofs.RankOf.{rank_at, rank_by, rank_enum_there, rank_bool, rank_range, rank_tuple}
use Rattle.og_types.proofs.Span.{true_le, within_span, gap_of}

-- what stands at the place that is found passes
place_found : {X : Type 0} (test : X → Bool) (xs : List X) (k : ℕ) → place_of test xs ≡ Some k → (x : X) × (slice_get xs k ≡ Some x) × (test x ≡ true)
place_found test [] k e = absurd (cc)
place_found {X} test (x ∷ xs) k e = by (test x) (place_of test xs) refl k e (place_found test xs)
  where
    by : (b : Bool) (found : Option ℕ) → test x ≡ b → (k : ℕ) → (if b then Some 0 else option_map (λ j. j + 1) found) ≡ Some k → ((j : ℕ) → found ≡ Some j → (y : X) × (slice_get xs j ≡ Some y) × (test y ≡ true)) → (y : X) × (slice_get (x ∷ xs) k ≡ Some y) × (test y ≡ true)
    by true found p k e after = let first : k ≡ 0 = cc in (x, ap (slice_get (x ∷ xs)) first, p)
    by false None p k e after = absurd (cc)
    by false (Some j) p k e after =
        let there = after j refl in
        let next : k ≡ suc j = omega (arith, (let same : j + 1 ≡ k = cc in same)) in
        (there.0, ap (slice_get (x ∷ xs)) next ∙ there.1, there.2)

-- a rank leads to the value
pub at_rank : (t : Ty) (v : Value) (k : ℕ) → rank_of t v ≡ Some k → slice_get (values_of t) k ≡ Some v
at_rank t v k e = let there = place_found (same v) (values_of t) k e in there.1 ∙ ap Some (sym (same_equal v there.0 there.2))

pub at_joint_rank : (ts : List Ty) (vs : List Value) (k : ℕ) → joint_rank_of ts vs ≡ Some k → slice_get (joint_values_of ts) k ≡ Some vs
at_joint_rank ts vs k e = let there = place_found (pointwise same vs) (joint_values_of ts) k e in there.1 ∙ ap Some (sym ((pointwise_decides {E = same} same_decides vs there.0).0 there.2))

-- the claim of a type: a place leads to the rank
Claim : Ty → Type 0
Claim t = (k : ℕ) (v : Value) → slice_get (values_of t) k ≡ Some v → rank_of t v ≡ Some k

joint_claim : (ts : List Ty) → AllByRecursion Claim ts → (k : ℕ) (vs : List Value) → slice_get (joint_values_of ts) k ≡ Some vs → joint_rank_of ts vs ≡ Some k
unfolding Claim
joint_claim [] all zero vs e = let none : [] ≡ vs = cc in (λ j. joint_rank_of [] (sym none j))
joint_claim [] all (suc k) vs e = absurd (cc)
joint_claim (t ∷ ts) all k vs e =
    let stands = product_from (values_of t) (joint_values_of ts) k vs e in
    (λ j. joint_rank_of (t ∷ ts) (stands.is j))
    ∙ place_product stands.first stands.rest (values_of t) (joint_values_of ts)
    ∙ (λ j. together (length (joint_values_of ts)) (all.0 stands.first_at stands.first stands.first_is j) (joint_claim ts all.1 stands.rest_at stands.rest stands.rest_is j))
    ∙ ap Some (sym stands.at)

-- a number of the range stands as far from the lower end as its place says
range_claim : (low high : ℤ) (k : ℕ) → k < span low high → (if is_between low high (whole (low +ℤ pos k)) then Some (int_gap low (low +ℤ pos k)) else None) ≡ Some k
range_claim low high k h =
    let above : int_le low (low +ℤ pos k) ≡ true = true_le low (low +ℤ pos k) (omega (arith, ints)) in
    let below : int_le (low +ℤ pos k) high ≡ true = true_le (low +ℤ pos k) high (within_span low high k h) in
    (λ j. if above j && below j then Some (int_gap low (low +ℤ pos k)) else None) ∙ ap Some (gap_of low k)

-- ---- what stands at a place, by the form of the type

enum_place : (family cases k : ℕ) (v : Value) → slice_get (values_of (ty.Enum family cases)) k ≡ Some v → (k < cases) × (value.Case family k ≡ v)
enum_place family cases k v e =
    let listed : slice_get (map (λ i. value.Case family i) (range_with_len 0 cases)) k ≡ Some v = (λ j. slice_get (sym (values_enum family cases) j) k) ∙ e in
    let within : k < cases = omega (arith, slice_get_within (map (λ i. value.Case family i) (range_with_len 0 cases)) k v listed, length-map-range_with_len (λ i. value.Case family i) 0 cases) in
    let both : Some (value.Case family k) ≡ Some v = sym (range_map_at (λ i. value.Case family i) cases k within) ∙ listed in
    (within, cc)

bool_place : (k : ℕ) (v : Value) → slice_get (values_of ty.Bool) k ≡ Some v → (flag : Bool) × (k ≡ (if flag then 1 else 0)) × (value.Flag flag ≡ v)
bool_place k v e = by k ((λ j. slice_get (sym values_bool j) k) ∙ e)
  where
    by : (k : ℕ) → slice_get (value.Flag false ∷ value.Flag true ∷ []) k ≡ Some v → (flag : Bool) × (k ≡ (if flag then 1 else 0)) × (value.Flag flag ≡ v)
    by zero e = (false, refl, cc)
    by (suc zero) e = (true, omega arith, cc)
    by (suc (suc k)) e = absurd (cc)

range_place : (low high : ℤ) (k : ℕ) (v : Value) → slice_get (values_of (ty.Range low high)) k ≡ Some v → (k < span low high) × (value.Number (whole (low +ℤ pos k)) ≡ v)
range_place low high k v e =
    let listed : slice_get (map (λ i. value.Number (whole (low +ℤ pos i))) (range_with_len 0 (span low high))) k ≡ Some v = (λ j. slice_get (sym (values_range low high) j) k) ∙ e in
    let within : k < span low high = omega (arith, slice_get_within (map (λ i. value.Number (whole (low +ℤ pos i))) (range_with_len 0 (span low high))) k v listed, length-map-range_with_len (λ i. value.Number (whole (low +ℤ pos i))) 0 (span low high)) in
    let both : Some (value.Number (whole (low +ℤ pos k))) ≡ Some v = sym (range_map_at (λ i. value.Number (whole (low +ℤ pos i))) (span low high) k within) ∙ listed in
    (within, cc)

tuple_place : (ts : List Ty) (k : ℕ) (v : Value) → slice_get (values_of (ty.Tuple ts)) k ≡ Some v → (vs : List Value) × (slice_get (joint_values_of ts) k ≡ Some vs) × (v ≡ value.Tuple vs)
tuple_place ts k v e =
    mapped_from value.Tuple (slice_get (joint_values_of ts) k) v (sym (slice_get-map value.Tuple (joint_values_of ts) k) ∙ (λ j. slice_get (sym (values_tuple ts) j) k) ∙ e)

number_place : {A : Type 0} (k : ℕ) (v : Value) → slice_get (values_of ty.Number) k ≡ Some v → A
number_place k v e = let none : None ≡ Some v = (λ j. slice_get (sym values_number j) k) ∙ e in absurd (cc)

-- ---- a place leads to the rank

pub rank_at_place : (t : Ty) (k : ℕ) (v : Value) → slice_get (values_of t) k ≡ Some v → rank_of t v ≡ Some k
unfolding Claim
rank_at_place = type_induction Claim
    (λ family cases k v e.
    let there = enum_place family cases k v e in
    sym (rank_enum_there (ty.Enum family cases) v family cases family k refl (sym there.1) refl there.0))
    (λ k v e.
    let there = bool_place k v e in
    (λ j. rank_of ty.Bool (sym there.2 j)) ∙ rank_bool there.0 ∙ ap Some (sym there.1))
    (λ low high k v e.
    let there = range_place low high k v e in
    sym (rank_range (ty.Range low high) v low high (whole (low +ℤ pos k)) refl (sym there.1)) ∙ range_claim low high k there.0)
    (λ ts all k v e.
    let there = tuple_place ts k v e in
    sym (rank_tuple (ty.Tuple ts) v ts there.0 refl there.2) ∙ joint_claim ts all k there.0 there.1)
    (λ k v e. number_place k v e)

pub joint_rank_at_place : (ts : List Ty) (k : ℕ) (vs : List Value) → slice_get (joint_values_of ts) k ≡ Some vs → joint_rank_of ts vs ≡ Some k
unfolding Claim
joint_rank_at_place ts = joint_claim ts (each ts)
  where
    each : (ts : List Ty) → AllByRecursion Claim ts
    each [] = tt
    each (t ∷ ts) = (rank_at_place t, each ts)

-- ---- a rank is there exactly for the values of the type

finite_at : (x : Ty-F Ty) → is_finite (roll-Ty x) ≡ is_finite_step (map-Ty Ty Bool is_finite x)
finite_at x = fold-roll-Ty Bool is_finite_step x

There : Ty → Type 0
There t = (v : Value) → is_finite t ≡ true → is_some (rank_of t v) ≡ holds t v

some_if : (b : Bool) (k : ℕ) → is_some (if b then Some k else None) ≡ b
some_if true k = refl
some_if false k = refl

both_there : (many : ℕ) (first rest : Option ℕ) → is_some (together many first rest) ≡ is_some first && is_some rest
both_there many None rest = refl
both_there many (Some i) None = refl
both_there many (Some i) (Some j) = refl

parts_there : (es : List ((t : Ty) × There t)) (vs : List Value) → list_all (λ part. part) (map is_finite (map (λ e. e.0) es)) ≡ true → is_some (joint_rank_of (map (λ e. e.0) es) vs) ≡ pointwise (λ part v. part v) (map holds (map (λ e. e.0) es)) vs
unfolding There
parts_there [] [] f = refl
parts_there [] (v ∷ vs) f = refl
parts_there (e ∷ es) [] f = ap is_some (place_shorter (values_of e.0) (joint_values_of (map (λ e. e.0) es)))
parts_there (e ∷ es) (v ∷ vs) f =
    let finite = and_parts (is_finite e.0) (list_all (λ part. part) (map is_finite (map (λ e. e.0) es))) f in
    ap is_some (place_product v vs (values_of e.0) (joint_values_of (map (λ e. e.0) es)))
    ∙ both_there (length (joint_values_of (map (λ e. e.0) es))) (rank_of e.0 v) (joint_rank_of (map (λ e. e.0) es) vs)
    ∙ (λ j. e.1 v finite.0 j && parts_there es vs finite.1 j)

levels_there : (y : Ty-F ((t : Ty) × There t)) (z : Value-F Value) → is_finite_step (map-Ty Ty Bool is_finite (map-Ty ((t : Ty) × There t) Ty (λ e. e.0) y)) ≡ true → is_some (rank_by (map-Ty ((t : Ty) × There t) Ty (λ e. e.0) y) z) ≡ holds_step (map-Ty Ty (Value → Bool) holds (map-Ty ((t : Ty) × There t) Ty (λ e. e.0) y)) z
levels_there (one.Enum family cases) (val.Case other index) f = some_if ((family == other) && nat_lt index cases) index
levels_there one.Bool (val.Flag flag) f = refl
levels_there (one.Range low high) (val.Number number) f = some_if (is_between low high number) (int_gap low number.numerator)
levels_there (one.Tuple es) (val.Tuple vs) f = parts_there es vs f
levels_there one.Number z f = absurd (cc)
levels_there _ _ f = refl

pub rank_there : (t : Ty) (v : Value) → is_finite t ≡ true → is_some (rank_of t v) ≡ holds t v
unfolding There
rank_there = ind-Ty There (λ x y is. subst (λ z. There (roll-Ty z)) is (λ v f.
    let z = map-Ty ((t : Ty) × There t) Ty (λ e. e.0) y in
    ap is_some (rank_at (roll-Ty z) v ∙ (λ j. rank_by (out-roll-Ty z j) (out-Value v)))
    ∙ levels_there y (out-Value v) (sym (finite_at z) ∙ f) ∙ sym (holds_at z v)))

-- ---- ranks go by the order of values

Ordered : Ty → Type 0
Ordered t = (v w : Value) (i j : ℕ) → slice_get (values_of t) i ≡ Some v → slice_get (values_of t) j ≡ Some w → order v w ≡ nat_cmp i j

cmp_less : (i j : ℕ) → nat_cmp i j ≡ Less → i < j
cmp_less i j e = grind (arith, nat_tests)

cmp_equal : (i j : ℕ) → nat_cmp i j ≡ Equal → i ≡ j
cmp_equal i j e = grind (arith, nat_tests)

cmp_greater : (i j : ℕ) → nat_cmp i j ≡ Greater → j < i
cmp_greater i j e = grind (arith, nat_tests)

row_below : (i j n k : ℕ) → i < j → k < n → i * n + k < j * n
row_below i j n k h p = omega (arith, row_fits i n j n h (omega arith))

shifted : (a k l : ℕ) → nat_cmp (a + k) (a + l) ≡ nat_cmp k l
shifted a k l = by (nat_cmp k l) refl
  where
    by : (r : Ordering) → nat_cmp k l ≡ r → nat_cmp (a + k) (a + l) ≡ r
    by Less e = sym (nat_cmp_is (a + k) (a + l) Less (omega (arith, cmp_less k l e)))
    by Equal e = sym (nat_cmp_is (a + k) (a + l) Equal (ap (λ n. a + n) (cmp_equal k l e)))
    by Greater e = sym (nat_cmp_is (a + k) (a + l) Greater (omega (arith, cmp_greater k l e)))

-- where the lists after the first values stand below their count, the first values decide before them
together_cmp : (n i j k l : ℕ) → k < n → l < n → nat_cmp (i * n + k) (j * n + l) ≡ ordering_then (nat_cmp i j) (nat_cmp k l)
together_cmp n i j k l p q = by (nat_cmp i j) refl
  where
    by : (r : Ordering) → nat_cmp i j ≡ r → nat_cmp (i * n + k) (j * n + l) ≡ ordering_then r (nat_cmp k l)
    by Less e =
        let below : i < j = cmp_less i j e in
        sym (nat_cmp_is (i * n + k) (j * n + l) Less (omega (arith, row_below i j n k below p)))
    by Equal e =
        let same : i ≡ j = cmp_equal i j e in
        (λ m. nat_cmp (same m * n + k) (j * n + l)) ∙ shifted (j * n) k l
    by Greater e =
        let below : j < i = cmp_greater i j e in
        sym (nat_cmp_is (i * n + k) (j * n + l) Greater (omega (arith, row_below j i n l below q)))

joint_ordered : (ts : List Ty) → AllByRecursion Ordered ts → (vs ws : List Value) (i j : ℕ) → slice_get (joint_values_of ts) i ≡ Some vs → slice_get (joint_values_of ts) j ≡ Some ws → slice_cmp order vs ws ≡ nat_cmp i j
unfolding Ordered
joint_ordered [] all vs ws zero zero p q = let none : [] ≡ vs = cc in let none_too : [] ≡ ws = cc in (λ j. slice_cmp order (sym none j) (sym none_too j))
joint_ordered [] all vs ws (suc i) j p q = absurd (cc)
joint_ordered [] all vs ws i (suc j) p q = absurd (cc)
joint_ordered (t ∷ ts) all vs ws i j p q =
    let one = product_from (values_of t) (joint_values_of ts) i vs p in
    let two = product_from (values_of t) (joint_values_of ts) j ws q in
    (λ k. slice_cmp order (one.is k) (two.is k))
    ∙ (λ k. ordering_then (all.0 one.first two.first one.first_at two.first_at one.first_is two.first_is k) (joint_ordered ts all.1 one.rest two.rest one.rest_at two.rest_at one.rest_is two.rest_is k))
    ∙ sym (together_cmp (length (joint_values_of ts)) one.first_at two.first_at one.rest_at two.rest_at (slice_get_within (joint_values_of ts) one.rest_at one.rest one.rest_is) (slice_get_within (joint_values_of ts) two.rest_at two.rest two.rest_is))
    ∙ (λ k. nat_cmp (sym one.at k) (sym two.at k))

cases_ordered : (family i j : ℕ) → order (value.Case family i) (value.Case family j) ≡ nat_cmp i j
cases_ordered family i j = order_cases family i family j ∙ ap (λ r. ordering_then r (nat_cmp i j)) (tied_itself nat_cmp_total family)

flags_ordered : (a b : Bool) → order (value.Flag a) (value.Flag b) ≡ nat_cmp (if a then 1 else 0) (if b then 1 else 0)
flags_ordered a b = order_flags a b ∙ by a b
  where
    by : (a b : Bool) → bool_cmp a b ≡ nat_cmp (if a then 1 else 0) (if b then 1 else 0)
    by false false = refl
    by false true = refl
    by true false = refl
    by true true = refl

wholes_ordered : (low : ℤ) (i j : ℕ) → fraction.order (over_positive (whole (low +ℤ pos i))) (over_positive (whole (low +ℤ pos j))) ≡ nat_cmp i j
wholes_ordered low i j = by (nat_cmp i j) refl
  where
    by : (r : Ordering) → nat_cmp i j ≡ r → fraction.order (over_positive (whole (low +ℤ pos i))) (over_positive (whole (low +ℤ pos j))) ≡ r
    by Less e = let below = cmp_less i j e in (order_less (over_positive (whole (low +ℤ pos i))) (over_positive (whole (low +ℤ pos j)))).1 (omega (arith, ints))
    by Equal e = (order_equal (over_positive (whole (low +ℤ pos i))) (over_positive (whole (low +ℤ pos j)))).1 (λ k. (low +ℤ pos (cmp_equal i j e k)) *ℤ pos 1)
    by Greater e =
        let below = cmp_greater i j e in
        order_reversed (over_positive (whole (low +ℤ pos i))) (over_positive (whole (low +ℤ pos j)))
        ∙ ap ordering_reverse ((order_less (over_positive (whole (low +ℤ pos j))) (over_positive (whole (low +ℤ pos i)))).1 (omega (arith, ints)))

numbers_ordered : (low : ℤ) (i j : ℕ) → order (value.Number (whole (low +ℤ pos i))) (value.Number (whole (low +ℤ pos j))) ≡ nat_cmp i j
numbers_ordered low i j =
    let p = whole (low +ℤ pos i) in
    let q = whole (low +ℤ pos j) in
    order_numbers p q ∙ ap (λ r. ordering_then r (nat_cmp 1 1)) (wholes_ordered low i j) ∙ by (nat_cmp i j)
  where
    by : (r : Ordering) → ordering_then r (nat_cmp 1 1) ≡ r
    by Less = refl
    by Equal = refl
    by Greater = refl

pub places_ordered : (t : Ty) (v w : Value) (i j : ℕ) → slice_get (values_of t) i ≡ Some v → slice_get (values_of t) j ≡ Some w → order v w ≡ nat_cmp i j
unfolding Ordered
places_ordered = type_induction Ordered
    (λ family cases v w i j p q. (λ k. order (sym (enum_place family cases i v p).1 k) (sym (enum_place family cases j w q).1 k)) ∙ cases_ordered family i j)
    (λ v w i j p q.
    let one = bool_place i v p in
    let two = bool_place j w q in
    (λ k. order (sym one.2 k) (sym two.2 k)) ∙ flags_ordered one.0 two.0 ∙ (λ k. nat_cmp (sym one.1 k) (sym two.1 k)))
    (λ low high v w i j p q. (λ k. order (sym (range_place low high i v p).1 k) (sym (range_place low high j w q).1 k)) ∙ numbers_ordered low i j)
    (λ ts all v w i j p q.
    let one = tuple_place ts i v p in
    let two = tuple_place ts j w q in
    (λ k. order (one.2 k) (two.2 k)) ∙ order_tuples one.0 two.0 ∙ joint_ordered ts all one.0 two.0 i j one.1 two.1)
    (λ v w i j p q. number_place i v p)

-- ---- what the laws say

pub joint_rank_there : (ts : List Ty) (vs : List Value) → list_all is_finite ts ≡ true → is_some (joint_rank_of ts vs) ≡ pointwise holds ts vs
joint_rank_there [] [] f = refl
joint_rank_there [] (v ∷ vs) f = refl
joint_rank_there (t ∷ ts) [] f = ap is_some (place_shorter (values_of t) (joint_values_of ts))
joint_rank_there (t ∷ ts) (v ∷ vs) f =
    let finite = and_parts (is_finite t) (list_all is_finite ts) f in
    ap is_some (place_product v vs (values_of t) (joint_values_of ts))
    ∙ both_there (length (joint_values_of ts)) (rank_of t v) (joint_rank_of ts vs) ∙ (λ j. rank_there t v finite.0 j && joint_rank_there ts vs finite.1 j)

some_of : (o : Option ℕ) → is_some o ≡ true → (k : ℕ) × (o ≡ Some k)
some_of None e = absurd (cc)
some_of (Some k) e = (k, refl)

-- a value of a finite type has a rank
ranked : (t : Ty) (v : Value) → is_finite t ≡ true → holds t v ≡ true → (k : ℕ) × (rank_of t v ≡ Some k)
ranked t v f h = some_of (rank_of t v) (rank_there t v f ∙ h)

-- where a rank is a place in the list, it is there exactly for what is in the list
contained : {X : Type 0} (xs : List X) (x : X) (rank : Option ℕ) (h : Bool) → is_some rank ≡ h → ((k : ℕ) → rank ≡ Some k → slice_get xs k ≡ Some x) → ((k : ℕ) → slice_get xs k ≡ Some x → rank ≡ Some k) → (h ≡ true) ↔ Contains xs x
contained xs x rank h there at from = (
  λ e.
      let found = some_of rank (there ∙ e) in
      let is = at found.0 found.1 in
      (found.0, slice_get_within xs found.0 x is, get_or_from_slice_get xs found.0 x x is),
  λ place.
      let is : slice_get xs place.0 ≡ Some x = slice_get-get_or xs place.0 x place.1 ∙ ap Some place.2 in
      sym there ∙ ap is_some (from place.0 is),
)

-- what has a rank by its place is there once
once : {X : Type 0} (xs : List X) (rank : X → Option ℕ) → ((k : ℕ) (x : X) → slice_get xs k ≡ Some x → rank x ≡ Some k) → AllPairs (λ x y. x ≢ y) xs
once xs rank from = λ i j d h k e.
    let first = from i (get_or xs i d) (slice_get-get_or xs i d (omega arith)) in
    let second = from j (get_or xs j d) (slice_get-get_or xs j d k) in
    let both : Some i ≡ Some j = sym first ∙ ap rank e ∙ second in
    let same : i ≡ j = cc in
    omega arith

pub each_listed : (t : Ty) (v : Value) → is_finite t ≡ true → (holds t v ≡ true) ↔ Contains (values_of t) v
each_listed t v f = contained (values_of t) v (rank_of t v) (holds t v) (rank_there t v f) (at_rank t v) (λ k. rank_at_place t k v)

pub listed_once : (t : Ty) → AllPairs (λ v w. v ≢ w) (values_of t)
listed_once t = once (values_of t) (rank_of t) (rank_at_place t)

pub each_joint : (ts : List Ty) (vs : List Value) → list_all is_finite ts ≡ true → (pointwise holds ts vs ≡ true) ↔ Contains (joint_values_of ts) vs
each_joint ts vs f = contained (joint_values_of ts) vs (joint_rank_of ts vs) (pointwise holds ts vs) (joint_rank_there ts vs f) (at_joint_rank ts vs) (λ k. joint_rank_at_place ts k vs)

pub joint_once : (ts : List Ty) → AllPairs (λ vs ws. vs ≢ ws) (joint_values_of ts)
joint_once ts = once (joint_values_of ts) (joint_rank_of ts) (joint_rank_at_place ts)

pub equal_joint_ranks : (ts : List Ty) (vs ws : List Value) (k : ℕ) → joint_rank_of ts vs ≡ Some k → joint_rank_of ts ws ≡ Some k → vs ≡ ws
equal_joint_ranks ts vs ws k p q = let both : Some vs ≡ Some ws = sym (at_joint_rank ts vs k p) ∙ at_joint_rank ts ws k q in cc

pub joint_ranks_ordered : (ts : List Ty) (vs ws : List Value) (i j : ℕ) → joint_rank_of ts vs ≡ Some i → joint_rank_of ts ws ≡ Some j → slice_cmp order vs ws ≡ nat_cmp i j
unfolding Ordered
joint_ranks_ordered ts vs ws i j p q = joint_ordered ts (each ts) vs ws i j (at_joint_rank ts vs i p) (at_joint_rank ts ws j q)
  where
    each : (ts : List Ty) → AllByRecursion Ordered ts
    each [] = tt
    each (t ∷ ts) = (places_ordered t, each ts)

pub equal_ranks : (t : Ty) (v w : Value) → is_finite t ≡ true → holds t v ≡ true → holds t w ≡ true → (rank_of t v ≡ rank_of t w) ↔ (v ≡ w)
equal_ranks t v w f p q = (
  λ e.
      let rank = ranked t v f p in
      let both : Some v ≡ Some w = sym (at_rank t v rank.0 rank.1) ∙ at_rank t w rank.0 (sym e ∙ rank.1) in
      cc,
  λ e. ap (rank_of t) e,
)

pub rank_by_parts : (t : Ty) (ts : List Ty) (v : Value) (vs : List Value) (i j : ℕ) → rank_of t v ≡ Some i → joint_rank_of ts vs ≡ Some j → joint_rank_of (t ∷ ts) (v ∷ vs) ≡ Some (i * length (joint_values_of ts) + j)
rank_by_parts t ts v vs i j p q = place_product v vs (values_of t) (joint_values_of ts) ∙ (λ k. together (length (joint_values_of ts)) (p k) (q k))

some_same : (m n : ℕ) → Some m ≡ Some n → m ≡ n
some_same m n e = cc

pub first_slowest : (t : Ty) (ts : List Ty) (v w : Value) (vs ws : List Value) (i j k l m n : ℕ) → rank_of t v ≡ Some i → rank_of t w ≡ Some j → joint_rank_of ts vs ≡ Some k → joint_rank_of ts ws ≡ Some l → joint_rank_of (t ∷ ts) (v ∷ vs) ≡ Some m → joint_rank_of (t ∷ ts) (w ∷ ws) ≡ Some n → nat_cmp m n ≡ ordering_then (nat_cmp i j) (nat_cmp k l)
first_slowest t ts v w vs ws i j k l m n a b c d e f =
    let one = some_same _ _ (sym e ∙ rank_by_parts t ts v vs i k a c) in
    let two = some_same _ _ (sym f ∙ rank_by_parts t ts w ws j l b d) in
    (λ z. nat_cmp (one z) (two z))
    ∙ together_cmp (length (joint_values_of ts)) i j k l (slice_get_within (joint_values_of ts) k vs (at_joint_rank ts vs k c)) (slice_get_within (joint_values_of ts) l ws (at_joint_rank ts ws l d))

pub rank_is_there : (t : Ty) (v : Value) (found : Option ℕ) → IsSmall t → found ≡ rank_of t v → is_some found ≡ holds t v
rank_is_there t v found small e = ap is_some e ∙ rank_there t v small.finite

pub joint_rank_is_there : (ts : List Ty) (vs : List Value) (found : Option ℕ) → AreSmall ts → found ≡ joint_rank_of ts vs → is_some found ≡ pointwise holds ts vs
joint_rank_is_there ts vs found small e = ap is_some e ∙ joint_rank_there ts vs small.finite
