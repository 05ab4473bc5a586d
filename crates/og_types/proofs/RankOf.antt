-- Where a value stands among those of its type, by the forms of both.
use Rattle.std.proofs.Common.{◌≡◌, ℕ, ℤ, pos, zero, suc, ◌+◌, ◌<◌, ◌≤◌, Bool, true, false, ◌&&◌, ◌==◌, if◌then◌else◌, nat_lt, List, [], ◌∷◌, map, ap, sym, ◌∙◌, refl, arith, eq-eqb}
use Rattle.std.specs.Prelude.{Some, None, Option, ◌+ℤ◌, int_le}
use Rattle.std.specs.Option.{option_map}
use Rattle.std.specs.Int.{int_gap}
use Rattle.std.specs.Ordering.{int_eq}
use Rattle.std.specs.List.{range_with_len}
use Rattle.std.proofs.Math.Bool.{and-true, and-false}
use Rattle.std.specs.Cmp.Lexicographic.{pointwise}
use Rattle.og_types.proofs.Span.{eq_gap, eq_below, lt_span, le_true, le_false}
use Rattle.std.proofs.lemmas.Bool.Decides.{nat_tests}
use Rattle.og_frac.specs.Fraction.{Fraction, whole}
use Rattle.og_types.specs.declared.value.Value.{Value}
use Rattle.og_types.specs.declared.value.Value.TheOpen.{Value-F}
use Rattle.og_types.specs.declared.value.Value.TheOpen as val
use Rattle.og_types.specs.declared.value.Value.TheViews.{out-Value, roll-Value, roll-out-Value}
use Rattle.og_types.specs.declared.value.Value.TheFolds.{map-Value}
use Rattle.og_types.specs.declared.value.Value.TheVariants as value
use Rattle.og_types.specs.declared.ty.Ty.TheVariants as ty
use Rattle.og_types.specs.declared.ty.Ty.{Ty}
use Rattle.og_types.specs.declared.ty.Ty.TheOpen.{Ty-F}
use Rattle.og_types.specs.declared.ty.Ty.TheOpen as one
use Rattle.og_types.specs.declared.ty.Ty.TheViews.{out-Ty, roll-out-Ty}
use Rattle.og_types.specs.declared.ty.Ty.TheFolds.{fold-roll-Ty, map-Ty}
use Rattle.og_types.specs.Ty.{is_between}
use Rattle.og_types.specs.Value.{same, same_step, same_flag}
use Rattle.og_types.specs.laws.ValueEquality.{same_at}
use Rattle.og_types.specs.Values.{values_of, values_step, tuples, place_of, rank_of, joint_rank_of, span}
use Rattle.og_types.proofs.ValueLevels.{same_tuples}
use Rattle.og_types.proofs.Tuples.{place_of-map, place_nowhere}

-- tests that agree find the same place
place_same : {X : Type 0} (first second : X → Bool) (xs : List X) → ((x : X) → first x ≡ second x) → place_of first xs ≡ place_of second xs
place_same first second xs h = λ j. place_of (λ x. h x j) xs

-- the place of a number in a range
place_in_range : (a n k m : ℕ) → m ≡ a + k → place_of (λ i. m == i) (range_with_len a n) ≡ (if nat_lt k n then Some k else None)
place_in_range a zero k m e =
    let past : nat_lt k 0 ≡ false = grind (arith, nat_tests) in (λ j. if sym past j then Some k else None)
place_in_range a (suc n) zero m e =
    let here : (m == a) ≡ true = grind (arith, nat_tests) in
    let within : nat_lt 0 (suc n) ≡ true = grind (arith, nat_tests) in
    (λ j. if here j then Some 0 else option_map (λ k. k + 1) (place_of (λ i. m == i) (range_with_len (a + 1) n))) ∙ (λ j. if sym within j then Some 0 else None)
place_in_range a (suc n) (suc k) m e =
    let here : (m == a) ≡ false = grind (arith, nat_tests) in
    let within : nat_lt k n ≡ nat_lt (suc k) (suc n) = grind (arith, nat_tests) in
    (λ j. if here j then Some 0 else option_map (λ k. k + 1) (place_of (λ i. m == i) (range_with_len (a + 1) n)))
    ∙ ap (option_map (λ k. k + 1)) (place_in_range (a + 1) n k m (omega arith)) ∙ by (nat_lt k n) ∙ (λ j. if within j then Some (suc k) else None)
  where
    by : (b : Bool) → option_map (λ k. k + 1) (if b then Some k else None) ≡ (if b then Some (suc k) else None)
    by true = ap Some (omega arith)
    by false = refl

enum_place : (b : Bool) (index cases : ℕ) → place_of (λ i. b && (index == i)) (range_with_len 0 cases) ≡ (if b && nat_lt index cases then Some index else None)
enum_place true index cases = place_in_range 0 cases index index (omega arith)
enum_place false index cases = place_nowhere (λ i. false) (range_with_len 0 cases) (λ i. refl)

gap_place : (low high n : ℤ) (b : Bool) → int_le low n ≡ b → place_of (λ k. int_eq n (low +ℤ pos k)) (range_with_len 0 (span low high)) ≡ (if b && int_le n high then Some (int_gap low n) else None)
gap_place low high n false e = place_nowhere (λ k. int_eq n (low +ℤ pos k)) (range_with_len 0 (span low high)) (λ k. eq_below low n k (le_false low n e))
gap_place low high n true e =
    place_same (λ k. int_eq n (low +ℤ pos k)) (λ k. int_gap low n == k) (range_with_len 0 (span low high)) (λ k. eq_gap low n k (le_true low n e))
    ∙ place_in_range 0 (span low high) (int_gap low n) (int_gap low n) (omega arith) ∙ (let within : nat_lt (int_gap low n) (span low high) ≡ int_le n high = lt_span low high n (le_true low n e) in λ j. if within j then Some (int_gap low n) else None)

range_place : (low high n : ℤ) (d : Bool) → place_of (λ k. int_eq n (low +ℤ pos k) && d) (range_with_len 0 (span low high)) ≡ (if d && (int_le low n && int_le n high) then Some (int_gap low n) else None)
range_place low high n false = place_nowhere (λ k. int_eq n (low +ℤ pos k) && false) (range_with_len 0 (span low high)) (λ k. and-false (int_eq n (low +ℤ pos k)))
range_place low high n true =
    place_same (λ k. int_eq n (low +ℤ pos k) && true) (λ k. int_eq n (low +ℤ pos k)) (range_with_len 0 (span low high)) (λ k. and-true (int_eq n (low +ℤ pos k)))
    ∙ gap_place low high n (int_le low n) refl

-- where a value stands, by the forms of the type and of the value
abbrev pub rank_by : Ty-F Ty → Value-F Value → Option ℕ
rank_by (one.Enum family cases) (val.Case other index) = if (family == other) && nat_lt index cases then Some index else None
rank_by one.Bool (val.Flag flag) = Some (if flag then 1 else 0)
rank_by (one.Range low high) (val.Number number) = if is_between low high number then Some (int_gap low number.numerator) else None
rank_by (one.Tuple types) (val.Tuple values) = joint_rank_of types values
rank_by _ _ = None

leaf : (x : Ty-F Ty) (z : Value-F Value) → place_of (same (roll-Value z)) (values_step (map-Ty Ty (List Value) values_of x)) ≡ rank_by x z
leaf (one.Enum family cases) (val.Case other index) =
    let turned : (other == family) ≡ (family == other) = grind (arith, nat_tests) in
    place_of-map (λ i. value.Case family i) (same (roll-Value (val.Case other index))) (range_with_len 0 cases)
    ∙ place_same (λ i. same (roll-Value (val.Case other index)) (value.Case family i)) (λ i. (family == other) && (index == i)) (range_with_len 0 cases)
    (λ i. same_at (val.Case other index) (value.Case family i) ∙ ap (same_step (val.Case other index)) (value.outs-Case family i) ∙ (λ j. turned j && (index == i)))
    ∙ enum_place (family == other) index cases
leaf (one.Enum family cases) z =
    place_of-map (λ i. value.Case family i) (same (roll-Value z)) (range_with_len 0 cases)
    ∙ place_nowhere (λ i. same (roll-Value z) (value.Case family i)) (range_with_len 0 cases) (λ i. same_at z (value.Case family i) ∙ ap (same_step (map-Value Value (Value → Bool) same z)) (value.outs-Case family i))
leaf one.Bool (val.Flag flag) = (λ j. if at flag false j then Some 0 else option_map (λ k. k + 1) (if at flag true j then Some 0 else None)) ∙ by flag
  where
    at : (a b : Bool) → same (roll-Value (val.Flag a)) (value.Flag b) ≡ same_flag a b
    at a b = same_at (val.Flag a) (value.Flag b) ∙ ap (same_step (val.Flag a)) (value.outs-Flag b)

    by : (flag : Bool) → (if same_flag flag false then Some 0 else option_map (λ k. k + 1) (if same_flag flag true then Some 0 else None)) ≡ Some (if flag then 1 else 0)
    by true = ap Some (omega arith)
    by false = refl
leaf one.Bool z =
    place_of-map (λ b. value.Flag b) (same (roll-Value z)) (false ∷ true ∷ [])
    ∙ place_nowhere (λ b. same (roll-Value z) (value.Flag b)) (false ∷ true ∷ []) (λ b. same_at z (value.Flag b) ∙ ap (same_step (map-Value Value (Value → Bool) same z)) (value.outs-Flag b))
leaf (one.Range low high) (val.Number number) =
    place_of-map (λ k. value.Number (whole (low +ℤ pos k))) (same (roll-Value (val.Number number))) (range_with_len 0 (span low high))
    ∙ place_same (λ k. same (roll-Value (val.Number number)) (value.Number (whole (low +ℤ pos k)))) (λ k. int_eq number.numerator (low +ℤ pos k) && (number.denominator == 1)) (range_with_len 0 (span low high))
    (λ k. same_at (val.Number number) (value.Number (whole (low +ℤ pos k))) ∙ ap (same_step (val.Number number)) (value.outs-Number (whole (low +ℤ pos k))))
    ∙ range_place low high number.numerator (number.denominator == 1)
leaf (one.Range low high) z =
    place_of-map (λ k. value.Number (whole (low +ℤ pos k))) (same (roll-Value z)) (range_with_len 0 (span low high))
    ∙ place_nowhere (λ k. same (roll-Value z) (value.Number (whole (low +ℤ pos k)))) (range_with_len 0 (span low high)) (λ k. same_at z (value.Number (whole (low +ℤ pos k))) ∙ ap (same_step (map-Value Value (Value → Bool) same z)) (value.outs-Number (whole (low +ℤ pos k))))
leaf (one.Tuple types) (val.Tuple values) =
    place_of-map value.Tuple (same (roll-Value (val.Tuple values))) (tuples (map values_of types))
    ∙ place_same (λ vs. same (roll-Value (val.Tuple values)) (value.Tuple vs)) (pointwise same values) (tuples (map values_of types)) (λ vs. ap (λ v. same v (value.Tuple vs)) (value.rolls-Tuple values) ∙ same_tuples values vs)
leaf (one.Tuple types) z =
    place_of-map value.Tuple (same (roll-Value z)) (tuples (map values_of types))
    ∙ place_nowhere (λ vs. same (roll-Value z) (value.Tuple vs)) (tuples (map values_of types)) (λ vs. same_at z (value.Tuple vs) ∙ ap (same_step (map-Value Value (Value → Bool) same z)) (value.outs-Tuple vs))
leaf one.Number z = refl

pub rank_at : (t : Ty) (v : Value) → rank_of t v ≡ rank_by (out-Ty t) (out-Value v)
rank_at t v =
    (λ j. rank_of (sym (roll-out-Ty t) j) (sym (roll-out-Value v) j))
    ∙ ap (place_of (same (roll-Value (out-Value v)))) (fold-roll-Ty (List Value) values_step (out-Ty t)) ∙ leaf (out-Ty t) (out-Value v)

rank_enum : (t : Ty) (v : Value) (family cases other index : ℕ) → t ≡ ty.Enum family cases → v ≡ value.Case other index → rank_of t v ≡ (if (family == other) && nat_lt index cases then Some index else None)
rank_enum t v family cases other index p q = rank_at t v ∙ (λ j. rank_by (out-Ty (p j)) (out-Value (q j))) ∙ (λ j. rank_by (ty.outs-Enum family cases j) (value.outs-Case other index j))

pub rank_enum_there : (t : Ty) (v : Value) (family cases other index : ℕ) → t ≡ ty.Enum family cases → v ≡ value.Case other index → family ≡ other → index < cases → Some index ≡ rank_of t v
rank_enum_there t v family cases other index p q e h =
    let same : (family == other) ≡ true = eq-eqb family other e in
    let within : nat_lt index cases ≡ true = grind (arith, nat_tests, h) in
    (λ j. if sym same j && sym within j then Some index else None) ∙ sym (rank_enum t v family cases other index p q)

pub rank_enum_other : (t : Ty) (v : Value) (family cases other index : ℕ) → t ≡ ty.Enum family cases → v ≡ value.Case other index → (family ≡ other → ⊥) → None ≡ rank_of t v
rank_enum_other t v family cases other index p q h =
    let differs : (family == other) ≡ false = grind (arith, nat_tests, h) in
    (λ j. if sym differs j && nat_lt index cases then Some index else None) ∙ sym (rank_enum t v family cases other index p q)

pub rank_enum_past : (t : Ty) (v : Value) (family cases other index : ℕ) → t ≡ ty.Enum family cases → v ≡ value.Case other index → family ≡ other → cases ≤ index → None ≡ rank_of t v
rank_enum_past t v family cases other index p q e h =
    let same : (family == other) ≡ true = eq-eqb family other e in
    let past : nat_lt index cases ≡ false = grind (arith, nat_tests, h) in
    (λ j. if sym same j && sym past j then Some index else None) ∙ sym (rank_enum t v family cases other index p q)

pub rank_range : (t : Ty) (v : Value) (low high : ℤ) (q : Fraction) → t ≡ ty.Range low high → v ≡ value.Number q → (if is_between low high q then Some (int_gap low q.numerator) else None) ≡ rank_of t v
rank_range t v low high number p q = sym (rank_at t v ∙ (λ j. rank_by (out-Ty (p j)) (out-Value (q j))) ∙ (λ j. rank_by (ty.outs-Range low high j) (value.outs-Number number j)))

pub rank_tuple : (t : Ty) (v : Value) (ts : List Ty) (vs : List Value) → t ≡ ty.Tuple ts → v ≡ value.Tuple vs → joint_rank_of ts vs ≡ rank_of t v
rank_tuple t v ts vs p q = sym (rank_at t v ∙ (λ j. rank_by (out-Ty (p j)) (out-Value (q j))) ∙ (λ j. rank_by (ty.outs-Tuple ts j) (value.outs-Tuple vs j)))

pub rank_bool : (flag : Bool) → rank_of ty.Bool (value.Flag flag) ≡ Some (if flag then 1 else 0)
rank_bool flag = rank_at ty.Bool (value.Flag flag) ∙ (λ j. rank_by (ty.outs-Bool j) (value.outs-Flag flag j))
