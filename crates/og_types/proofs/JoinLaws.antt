-- Joins of types: both types fit the join, it is the least such type, and the sides may be swapped.
use Rattle.std.proofs.Common.{◌≡◌, ℕ, ℤ, Bool, true, false, cond, ◌&&◌, ◌==◌, List, [], ◌∷◌, map, ap, sym, subst, ◌∙◌, refl, arith, eqb-true, eq-eqb}
use Rattle.std.specs.Prelude.{◌^◌, nat_lt, unsigned_abs, int_le, Option, Some, None, option_and_then, IfSome, IsSomeAnd, ◌↔◌}
use Rattle.std.specs.Int.{int_min, int_max}
use Rattle.std.specs.Option.{option_map}
use Rattle.std.specs.List.{list_all}
use Rattle.std.specs.Cmp.Lexicographic.{pointwise}
use Rattle.std.proofs.lemmas.Int.{ints}
use Rattle.std.proofs.lemmas.Bool.{and_from, and_parts}
use Rattle.og_types.specs.declared.ty.Ty.{Ty}
use Rattle.og_types.specs.declared.ty.Ty.TheOpen.{Ty-F}
use Rattle.og_types.specs.declared.ty.Ty.TheOpen as one
use Rattle.og_types.specs.declared.ty.Ty.TheViews.{out-Ty, roll-Ty, roll-out-Ty, out-roll-Ty}
use Rattle.og_types.specs.declared.ty.Ty.TheFolds.{fold-roll-Ty, map-Ty, ind-Ty}
use Rattle.og_types.specs.declared.ty.Ty.TheVariants as ty
use Rattle.og_types.specs.Ty.{fits, fits_step, join, join_step, joins, bounds_fit, bounds_fit_step}
use Rattle.og_types.proofs.FitsLaws.{fits_at, fits_open, fits_itself, fits_both_ways}
use Rattle.og_types.proofs.TyLevels.{fold_enum, fold_bool, fold_range, fold_number, bounds_fit_tuple}

pub join_at : (z : Ty-F Ty) (w : Ty) → join (roll-Ty z) w ≡ join_step (map-Ty Ty (Ty → Option Ty) join z) (out-Ty w)
join_at z w = λ i. fold-roll-Ty (Ty → Option Ty) (λ t u. join_step t (out-Ty u)) z i w

-- the same at any type
pub join_open : (u w : Ty) → join u w ≡ join_step (map-Ty Ty (Ty → Option Ty) join (out-Ty u)) (out-Ty w)
join_open u w = ap (λ t. join t w) (sym (roll-out-Ty u)) ∙ join_at (out-Ty u) w

min_first : (a b : ℤ) → int_le (int_min a b) a ≡ true
min_first a b = grind (arith, ints)

min_second : (a b : ℤ) → int_le (int_min a b) b ≡ true
min_second a b = grind (arith, ints)

max_first : (a b : ℤ) → int_le a (int_max a b) ≡ true
max_first a b = grind (arith, ints)

max_second : (a b : ℤ) → int_le b (int_max a b) ≡ true
max_second a b = grind (arith, ints)

min_greatest : (a b c : ℤ) → int_le c a ≡ true → int_le c b ≡ true → int_le c (int_min a b) ≡ true
min_greatest a b c p q = grind (arith, ints)

max_least : (a b c : ℤ) → int_le a c ≡ true → int_le b c ≡ true → int_le (int_max a b) c ≡ true
max_least a b c p q = grind (arith, ints)

min_swapped : (a b : ℤ) → int_min a b ≡ int_min b a
min_swapped a b = grind (arith, ints)

max_swapped : (a b : ℤ) → int_max a b ≡ int_max b a
max_swapped a b = grind (arith, ints)

min_itself : (a : ℤ) → int_min a a ≡ a
min_itself a = grind (arith, ints)

max_itself : (a : ℤ) → int_max a a ≡ a
max_itself a = grind (arith, ints)

min_small : (a b : ℤ) (n : ℕ) → nat_lt (unsigned_abs a) n ≡ true → nat_lt (unsigned_abs b) n ≡ true → nat_lt (unsigned_abs (int_min a b)) n ≡ true
min_small a b n p q = grind (arith, ints)

max_small : (a b : ℤ) (n : ℕ) → nat_lt (unsigned_abs a) n ≡ true → nat_lt (unsigned_abs b) n ≡ true → nat_lt (unsigned_abs (int_max a b)) n ≡ true
max_small a b n p q = grind (arith, ints)

-- both types fit the join

abbrev Upper : Ty → Type 0
Upper t = (u : Ty) → IfSome (join t u) (λ w. (fits t w ≡ true) × (fits u w ≡ true))

some_kept : {A : Type 0} (x : A) (P : A → Type 0) (b : Bool) → (b ≡ true → P x) → IfSome (cond b (Some x) None) P
some_kept x P true h = h refl
some_kept x P false h = tt

some_mapped : {A B : Type 0} (f : A → B) (P : A → Type 0) (Q : B → Type 0) → ((x : A) → P x → Q (f x)) → (o : Option A) → IfSome o P → IfSome (option_map f o) Q
some_mapped f P Q h None k = tt
some_mapped f P Q h (Some x) k = h x k

parts_upper : (es : List ((t : Ty) × Upper t)) (us : List Ty) → IfSome (joins (map join (map (λ e. e.0) es)) us) (λ ws. (pointwise (λ part other. part other) (map fits (map (λ e. e.0) es)) ws ≡ true) × (pointwise (λ part other. part other) (map fits us) ws ≡ true))
parts_upper [] [] = (refl, refl)
parts_upper [] (u ∷ us) = tt
parts_upper (e ∷ es) [] = tt
parts_upper (e ∷ es) (u ∷ us) = by (join e.0 u) (joins (map join (map (λ e. e.0) es)) us) (e.1 u) (parts_upper es us)
  where
    by : (o : Option Ty) (more : Option (List Ty)) → IfSome o (λ w. (fits e.0 w ≡ true) × (fits u w ≡ true)) → IfSome more (λ ws. (pointwise (λ part other. part other) (map fits (map (λ e. e.0) es)) ws ≡ true) × (pointwise (λ part other. part other) (map fits us) ws ≡ true)) → IfSome (option_and_then (λ t. option_map (λ ts. t ∷ ts) more) o) (λ ws. (pointwise (λ part other. part other) (fits e.0 ∷ map fits (map (λ e. e.0) es)) ws ≡ true) × (pointwise (λ part other. part other) (fits u ∷ map fits us) ws ≡ true))
    by None more p q = tt
    by (Some w) None p q = tt
    by (Some w) (Some ws) p q = ((λ i. p.0 i && q.0 i), (λ i. p.1 i && q.1 i))

levels_upper : (y : Ty-F ((t : Ty) × Upper t)) (z : Ty-F Ty) → IfSome (join_step (map-Ty Ty (Ty → Option Ty) join (map-Ty ((t : Ty) × Upper t) Ty (λ e. e.0) y)) z) (λ w. (fits_step (map-Ty Ty (Ty → Bool) fits (map-Ty ((t : Ty) × Upper t) Ty (λ e. e.0) y)) (out-Ty w) ≡ true) × (fits_step (map-Ty Ty (Ty → Bool) fits z) (out-Ty w) ≡ true))
levels_upper (one.Enum family cases) (one.Enum other count) =
    some_kept (ty.Enum family cases) (λ w. (fits_step (one.Enum family cases) (out-Ty w) ≡ true) × (fits_step (one.Enum other count) (out-Ty w) ≡ true)) ((family == other) && (cases == count)) (λ e.
    let both = and_parts (family == other) (cases == count) e in (
      ap (fits_step (one.Enum family cases)) (ty.outs-Enum family cases) ∙ and_from (family == family) (cases == cases) (eq-eqb family family refl) (eq-eqb cases cases refl),
      ap (fits_step (one.Enum other count)) (ty.outs-Enum family cases) ∙ and_from (other == family) (count == cases) (eq-eqb other family (sym (eqb-true family other both.0))) (eq-eqb count cases (sym (eqb-true cases count both.1))),
    ))
levels_upper one.Bool one.Bool = (ap (fits_step one.Bool) ty.outs-Bool, ap (fits_step one.Bool) ty.outs-Bool)
levels_upper (one.Range low high) (one.Range from to) = (
  ap (fits_step (one.Range low high)) (ty.outs-Range (int_min low from) (int_max high to)) ∙ and_from (int_le (int_min low from) low) (int_le high (int_max high to)) (min_first low from) (max_first high to),
  ap (fits_step (one.Range from to)) (ty.outs-Range (int_min low from) (int_max high to)) ∙ and_from (int_le (int_min low from) from) (int_le to (int_max high to)) (min_second low from) (max_second high to),
)
levels_upper (one.Range low high) one.Number = (ap (fits_step (one.Range low high)) ty.outs-Number, ap (fits_step one.Number) ty.outs-Number)
levels_upper one.Number (one.Range from to) = (ap (fits_step one.Number) ty.outs-Number, ap (fits_step (one.Range from to)) ty.outs-Number)
levels_upper one.Number one.Number = (ap (fits_step one.Number) ty.outs-Number, ap (fits_step one.Number) ty.outs-Number)
levels_upper (one.Tuple es) (one.Tuple us) =
    some_mapped ty.Tuple
    (λ ws. (pointwise (λ part other. part other) (map fits (map (λ e. e.0) es)) ws ≡ true) × (pointwise (λ part other. part other) (map fits us) ws ≡ true))
    (λ w. (fits_step (one.Tuple (map fits (map (λ e. e.0) es))) (out-Ty w) ≡ true) × (fits_step (one.Tuple (map fits us)) (out-Ty w) ≡ true))
    (λ ws h. (ap (fits_step (one.Tuple (map fits (map (λ e. e.0) es)))) (ty.outs-Tuple ws) ∙ h.0, ap (fits_step (one.Tuple (map fits us))) (ty.outs-Tuple ws) ∙ h.1))
    (joins (map join (map (λ e. e.0) es)) us) (parts_upper es us)
levels_upper _ _ = tt

join_upper : (t u : Ty) → IfSome (join t u) (λ w. (fits t w ≡ true) × (fits u w ≡ true))
join_upper = ind-Ty Upper (λ x y is. subst (λ z. Upper (roll-Ty z)) is (λ u.
    let z = map-Ty ((t : Ty) × Upper t) Ty (λ e. e.0) y in
    subst (λ (o : Option Ty). IfSome o (λ w. (fits (roll-Ty z) w ≡ true) × (fits u w ≡ true))) (sym (join_at z u))
    (subst (λ (f : Ty → Bool). IfSome (join_step (map-Ty Ty (Ty → Option Ty) join z) (out-Ty u)) (λ w. (f w ≡ true) × (fits u w ≡ true))) (λ i w. sym (fits_at z w) i)
    (subst (λ (f : Ty → Bool). IfSome (join_step (map-Ty Ty (Ty → Option Ty) join z) (out-Ty u)) (λ w. (fits_step (map-Ty Ty (Ty → Bool) fits z) (out-Ty w) ≡ true) × (f w ≡ true))) (λ i w. sym (fits_open u w) i)
    (levels_upper y (out-Ty u))))))

pub join_fits : (t u w : Ty) → join t u ≡ Some w → (fits t w ≡ true) × (fits u w ≡ true)
join_fits t u w e = subst (λ o. IfSome o (λ w. (fits t w ≡ true) × (fits u w ≡ true))) e (join_upper t u)

-- the join fits each type that both fit

abbrev Least : Ty → Type 0
Least t = (u w : Ty) → fits t w ≡ true → fits u w ≡ true → IsSomeAnd (join t u) (λ least. fits least w ≡ true)

some_found : {A : Type 0} (x : A) (P : A → Type 0) (b : Bool) → b ≡ true → P x → IsSomeAnd (cond b (Some x) None) P
some_found x P true e h = h
some_found x P false e h = absurd (cc)

found_mapped : {A B : Type 0} (f : A → B) (P : A → Type 0) (Q : B → Type 0) → ((x : A) → P x → Q (f x)) → (o : Option A) → IsSomeAnd o P → IsSomeAnd (option_map f o) Q
found_mapped f P Q h None k = k
found_mapped f P Q h (Some x) k = h x k

parts_least : (es : List ((t : Ty) × Least t)) (us ws : List Ty) → pointwise (λ part other. part other) (map fits (map (λ e. e.0) es)) ws ≡ true → pointwise (λ part other. part other) (map fits us) ws ≡ true → IsSomeAnd (joins (map join (map (λ e. e.0) es)) us) (λ least. pointwise (λ part other. part other) (map fits least) ws ≡ true)
parts_least [] [] ws p q = q
parts_least [] (u ∷ us) [] p q = absurd (cc)
parts_least [] (u ∷ us) (w ∷ ws) p q = absurd (cc)
parts_least (e ∷ es) us [] p q = absurd (cc)
parts_least (e ∷ es) [] (w ∷ ws) p q = absurd (cc)
parts_least (e ∷ es) (u ∷ us) (w ∷ ws) p q =
    let first = and_parts (fits e.0 w) (pointwise (λ part other. part other) (map fits (map (λ e. e.0) es)) ws) p in
    let second = and_parts (fits u w) (pointwise (λ part other. part other) (map fits us) ws) q in
    by (join e.0 u) (joins (map join (map (λ e. e.0) es)) us) (e.1 u w first.0 second.0) (parts_least es us ws first.1 second.1)
  where
    by : (o : Option Ty) (more : Option (List Ty)) → IsSomeAnd o (λ least. fits least w ≡ true) → IsSomeAnd more (λ least. pointwise (λ part other. part other) (map fits least) ws ≡ true) → IsSomeAnd (option_and_then (λ t. option_map (λ ts. t ∷ ts) more) o) (λ least. pointwise (λ part other. part other) (map fits least) (w ∷ ws) ≡ true)
    by None more p q = p
    by (Some v) None p q = q
    by (Some v) (Some vs) p q = λ i. p i && q i

levels_least : (x : Ty-F Ty) (y : Ty-F ((t : Ty) × Least t)) (z : Ty-F Ty) → fits_step (map-Ty Ty (Ty → Bool) fits (map-Ty ((t : Ty) × Least t) Ty (λ e. e.0) y)) x ≡ true → fits_step (map-Ty Ty (Ty → Bool) fits z) x ≡ true → IsSomeAnd (join_step (map-Ty Ty (Ty → Option Ty) join (map-Ty ((t : Ty) × Least t) Ty (λ e. e.0) y)) z) (λ least. fits_step (map-Ty Ty (Ty → Bool) fits (out-Ty least)) x ≡ true)
levels_least (one.Enum last many) (one.Enum family cases) (one.Enum other count) p q =
    let first = and_parts (family == last) (cases == many) p in
    let second = and_parts (other == last) (count == many) q in
    some_found (ty.Enum family cases) (λ least. fits_step (map-Ty Ty (Ty → Bool) fits (out-Ty least)) (one.Enum last many) ≡ true) ((family == other) && (cases == count))
    (and_from (family == other) (cases == count) (eq-eqb family other (eqb-true family last first.0 ∙ sym (eqb-true other last second.0))) (eq-eqb cases count (eqb-true cases many first.1 ∙ sym (eqb-true count many second.1))))
    (ap (λ least. fits_step (map-Ty Ty (Ty → Bool) fits least) (one.Enum last many)) (ty.outs-Enum family cases) ∙ p)
levels_least one.Bool one.Bool one.Bool p q = ap (λ least. fits_step (map-Ty Ty (Ty → Bool) fits least) one.Bool) ty.outs-Bool
levels_least (one.Range least most) (one.Range low high) (one.Range from to) p q =
    let first = and_parts (int_le least low) (int_le high most) p in
    let second = and_parts (int_le least from) (int_le to most) q in
    ap (λ w. fits_step (map-Ty Ty (Ty → Bool) fits w) (one.Range least most)) (ty.outs-Range (int_min low from) (int_max high to)) ∙ and_from (int_le least (int_min low from)) (int_le (int_max high to) most) (min_greatest low from least first.0 second.0) (max_least high to most first.1 second.1)
levels_least one.Number (one.Range low high) (one.Range from to) p q = ap (λ w. fits_step (map-Ty Ty (Ty → Bool) fits w) one.Number) (ty.outs-Range (int_min low from) (int_max high to))
levels_least one.Number (one.Range low high) one.Number p q = ap (λ w. fits_step (map-Ty Ty (Ty → Bool) fits w) one.Number) ty.outs-Number
levels_least one.Number one.Number (one.Range from to) p q = ap (λ w. fits_step (map-Ty Ty (Ty → Bool) fits w) one.Number) ty.outs-Number
levels_least one.Number one.Number one.Number p q = ap (λ w. fits_step (map-Ty Ty (Ty → Bool) fits w) one.Number) ty.outs-Number
levels_least (one.Tuple ws) (one.Tuple es) (one.Tuple us) p q =
    found_mapped ty.Tuple
    (λ least. pointwise (λ part other. part other) (map fits least) ws ≡ true)
    (λ least. fits_step (map-Ty Ty (Ty → Bool) fits (out-Ty least)) (one.Tuple ws) ≡ true)
    (λ least h. ap (λ w. fits_step (map-Ty Ty (Ty → Bool) fits w) (one.Tuple ws)) (ty.outs-Tuple least) ∙ h)
    (joins (map join (map (λ e. e.0) es)) us) (parts_least es us ws p q)
levels_least _ _ _ p q = absurd (cc)

pub join_least : (t u w : Ty) → fits t w ≡ true → fits u w ≡ true → IsSomeAnd (join t u) (λ least. fits least w ≡ true)
join_least = ind-Ty Least (λ x y is. subst (λ z. Least (roll-Ty z)) is (λ u w p q.
    let z = map-Ty ((t : Ty) × Least t) Ty (λ e. e.0) y in
    subst (λ (o : Option Ty). IsSomeAnd o (λ least. fits least w ≡ true)) (sym (join_at z u))
    (subst (λ (f : Ty → Bool). IsSomeAnd (join_step (map-Ty Ty (Ty → Option Ty) join z) (out-Ty u)) (λ least. f least ≡ true)) (λ i least. sym (fits_open least w) i)
    (levels_least (out-Ty w) y (out-Ty u) (sym (fits_at z w) ∙ p) (sym (fits_open u w) ∙ q)))))

-- there is no join exactly where no type is one that both fit
pub join_none : (t u : Ty) → (join t u ≡ None) ↔ ((w : Ty) → fits t w ≡ true → fits u w ≡ true → ⊥)
join_none t u = (
  (λ e w p q. subst (λ o. IsSomeAnd o (λ least. fits least w ≡ true)) e (join_least t u w p q)),
  (λ h. by h (join t u) refl),
)
  where
    by : ((w : Ty) → fits t w ≡ true → fits u w ≡ true → ⊥) → (o : Option Ty) → join t u ≡ o → o ≡ None
    by h None e = refl
    by h (Some w) e = let both = join_fits t u w e in absurd (h w both.0 both.1)

-- the join of a type with itself

chosen : {A : Type 0} (x : A) (b : Bool) → b ≡ true → cond b (Some x) None ≡ Some x
chosen x true e = refl
chosen x false e = absurd (cc)

abbrev Itself : Ty → Type 0
Itself t = join t t ≡ Some t

parts_itself : (es : List ((t : Ty) × Itself t)) → joins (map join (map (λ e. e.0) es)) (map (λ e. e.0) es) ≡ Some (map (λ e. e.0) es)
parts_itself [] = refl
parts_itself (e ∷ es) = (λ i. option_and_then (λ t. option_map (λ ts. t ∷ ts) (parts_itself es i)) (e.1 i))

level_itself : (y : Ty-F ((t : Ty) × Itself t)) → join_step (map-Ty Ty (Ty → Option Ty) join (map-Ty ((t : Ty) × Itself t) Ty (λ e. e.0) y)) (map-Ty ((t : Ty) × Itself t) Ty (λ e. e.0) y) ≡ Some (roll-Ty (map-Ty ((t : Ty) × Itself t) Ty (λ e. e.0) y))
level_itself (one.Enum family cases) = chosen (ty.Enum family cases) ((family == family) && (cases == cases)) (and_from (family == family) (cases == cases) (eq-eqb family family refl) (eq-eqb cases cases refl)) ∙ ap Some (sym (ty.rolls-Enum family cases))
level_itself one.Bool = ap Some (sym ty.rolls-Bool)
level_itself (one.Range low high) = (λ i. Some (ty.Range (min_itself low i) (max_itself high i))) ∙ ap Some (sym (ty.rolls-Range low high))
level_itself one.Number = ap Some (sym ty.rolls-Number)
level_itself (one.Tuple es) = ap (option_map ty.Tuple) (parts_itself es) ∙ ap Some (sym (ty.rolls-Tuple (map (λ e. e.0) es)))

pub join_itself : (t : Ty) → join t t ≡ Some t
join_itself = ind-Ty Itself (λ x y is. subst (λ z. Itself (roll-Ty z)) is
    (let z = map-Ty ((t : Ty) × Itself t) Ty (λ e. e.0) y in join_at z (roll-Ty z) ∙ ap (join_step (map-Ty Ty (Ty → Option Ty) join z)) (out-roll-Ty z) ∙ level_itself y))

-- the join of two types either way

abbrev Swapped : Ty → Type 0
Swapped t = (u : Ty) → join t u ≡ join u t

parts_swapped : (es : List ((t : Ty) × Swapped t)) (us : List Ty) → joins (map join (map (λ e. e.0) es)) us ≡ joins (map join us) (map (λ e. e.0) es)
parts_swapped [] [] = refl
parts_swapped [] (u ∷ us) = refl
parts_swapped (e ∷ es) [] = refl
parts_swapped (e ∷ es) (u ∷ us) = (λ i. option_and_then (λ t. option_map (λ ts. t ∷ ts) (parts_swapped es us i)) (e.1 u i))

enums_swapped : (m n k l : ℕ) (a b : Bool) → (m == n) && (k == l) ≡ a → (n == m) && (l == k) ≡ b → cond a (Some (ty.Enum m k)) None ≡ cond b (Some (ty.Enum n l)) None
enums_swapped m n k l true true p q = let both = and_parts (m == n) (k == l) p in (λ i. Some (ty.Enum (eqb-true m n both.0 i) (eqb-true k l both.1 i)))
enums_swapped m n k l true false p q =
    let both = and_parts (m == n) (k == l) p in
    let back = and_from (n == m) (l == k) (eq-eqb n m (sym (eqb-true m n both.0))) (eq-eqb l k (sym (eqb-true k l both.1))) in
    absurd (cc)
enums_swapped m n k l false true p q =
    let both = and_parts (n == m) (l == k) q in
    let back = and_from (m == n) (k == l) (eq-eqb m n (sym (eqb-true n m both.0))) (eq-eqb k l (sym (eqb-true l k both.1))) in
    absurd (cc)
enums_swapped m n k l false false p q = refl

levels_swapped : (y : Ty-F ((t : Ty) × Swapped t)) (z : Ty-F Ty) → join_step (map-Ty Ty (Ty → Option Ty) join (map-Ty ((t : Ty) × Swapped t) Ty (λ e. e.0) y)) z ≡ join_step (map-Ty Ty (Ty → Option Ty) join z) (map-Ty ((t : Ty) × Swapped t) Ty (λ e. e.0) y)
levels_swapped (one.Enum family cases) (one.Enum other count) = enums_swapped family other cases count ((family == other) && (cases == count)) ((other == family) && (count == cases)) refl refl
levels_swapped (one.Range low high) (one.Range from to) = (λ i. Some (ty.Range (min_swapped low from i) (max_swapped high to i)))
levels_swapped (one.Tuple es) (one.Tuple us) = ap (option_map ty.Tuple) (parts_swapped es us)
levels_swapped one.Bool one.Bool = refl
levels_swapped one.Number one.Number = refl
levels_swapped _ _ = refl

pub join_swapped : (t u : Ty) → join t u ≡ join u t
join_swapped = ind-Ty Swapped (λ x y is. subst (λ z. Swapped (roll-Ty z)) is (λ u.
    let z = map-Ty ((t : Ty) × Swapped t) Ty (λ e. e.0) y in
    join_at z u ∙ levels_swapped y (out-Ty u) ∙ ap (join_step (map-Ty Ty (Ty → Option Ty) join (out-Ty u))) (sym (out-roll-Ty z)) ∙ sym (join_open u (roll-Ty z))))

-- a type fits another exactly where the other is their join
pub join_exactly : (t u : Ty) → (fits t u ≡ true) ↔ (join t u ≡ Some u)
join_exactly t u = (
  (λ p. by (join t u) refl (join_least t u u p (fits_itself u))),
  (λ e. (join_fits t u u e).0),
)
  where
    by : (o : Option Ty) → join t u ≡ o → IsSomeAnd o (λ least. fits least u ≡ true) → o ≡ Some u
    by None e h = absurd h
    by (Some w) e h = ap Some (fits_both_ways w u h (join_fits t u w e).1)

-- the join's bounds fit where both types' do

abbrev Bounds : Ty → Type 0
Bounds t = (u : Ty) → bounds_fit t ≡ true → bounds_fit u ≡ true → IfSome (join t u) (λ w. bounds_fit w ≡ true)

bounds_at : (z : Ty-F Ty) → bounds_fit (roll-Ty z) ≡ bounds_fit_step (map-Ty Ty Bool bounds_fit z)
bounds_at z = fold-roll-Ty Bool bounds_fit_step z

bounds_open : (u : Ty) → bounds_fit u ≡ bounds_fit_step (map-Ty Ty Bool bounds_fit (out-Ty u))
bounds_open u = ap bounds_fit (sym (roll-out-Ty u)) ∙ bounds_at (out-Ty u)

parts_bounds : (es : List ((t : Ty) × Bounds t)) (us : List Ty) → list_all (λ part. part) (map bounds_fit (map (λ e. e.0) es)) ≡ true → list_all (λ part. part) (map bounds_fit us) ≡ true → IfSome (joins (map join (map (λ e. e.0) es)) us) (λ ws. list_all bounds_fit ws ≡ true)
parts_bounds [] [] p q = refl
parts_bounds [] (u ∷ us) p q = tt
parts_bounds (e ∷ es) [] p q = tt
parts_bounds (e ∷ es) (u ∷ us) p q =
    let first = and_parts (bounds_fit e.0) (list_all (λ part. part) (map bounds_fit (map (λ e. e.0) es))) p in
    let second = and_parts (bounds_fit u) (list_all (λ part. part) (map bounds_fit us)) q in
    by (join e.0 u) (joins (map join (map (λ e. e.0) es)) us) (e.1 u first.0 second.0) (parts_bounds es us first.1 second.1)
  where
    by : (o : Option Ty) (more : Option (List Ty)) → IfSome o (λ w. bounds_fit w ≡ true) → IfSome more (λ ws. list_all bounds_fit ws ≡ true) → IfSome (option_and_then (λ t. option_map (λ ts. t ∷ ts) more) o) (λ ws. list_all bounds_fit ws ≡ true)
    by None more p q = tt
    by (Some w) None p q = tt
    by (Some w) (Some ws) p q = λ i. p i && q i

levels_bounds : (y : Ty-F ((t : Ty) × Bounds t)) (z : Ty-F Ty) → bounds_fit_step (map-Ty Ty Bool bounds_fit (map-Ty ((t : Ty) × Bounds t) Ty (λ e. e.0) y)) ≡ true → bounds_fit_step (map-Ty Ty Bool bounds_fit z) ≡ true → IfSome (join_step (map-Ty Ty (Ty → Option Ty) join (map-Ty ((t : Ty) × Bounds t) Ty (λ e. e.0) y)) z) (λ w. bounds_fit w ≡ true)
levels_bounds (one.Enum family cases) (one.Enum other count) p q = some_kept (ty.Enum family cases) (λ w. bounds_fit w ≡ true) ((family == other) && (cases == count)) (λ e. fold_enum Bool bounds_fit_step family cases)
levels_bounds one.Bool one.Bool p q = fold_bool Bool bounds_fit_step
levels_bounds (one.Range low high) (one.Range from to) p q =
    let first = and_parts (nat_lt (unsigned_abs low) (2 ^ 63)) (nat_lt (unsigned_abs high) (2 ^ 63)) p in
    let second = and_parts (nat_lt (unsigned_abs from) (2 ^ 63)) (nat_lt (unsigned_abs to) (2 ^ 63)) q in
    fold_range Bool bounds_fit_step (int_min low from) (int_max high to)
    ∙ and_from (nat_lt (unsigned_abs (int_min low from)) (2 ^ 63)) (nat_lt (unsigned_abs (int_max high to)) (2 ^ 63)) (min_small low from (2 ^ 63) first.0 second.0) (max_small high to (2 ^ 63) first.1 second.1)
levels_bounds (one.Range low high) one.Number p q = fold_number Bool bounds_fit_step
levels_bounds one.Number (one.Range from to) p q = fold_number Bool bounds_fit_step
levels_bounds one.Number one.Number p q = fold_number Bool bounds_fit_step
levels_bounds (one.Tuple es) (one.Tuple us) p q =
    some_mapped ty.Tuple (λ ws. list_all bounds_fit ws ≡ true) (λ w. bounds_fit w ≡ true) (λ ws h. bounds_fit_tuple ws ∙ h) (joins (map join (map (λ e. e.0) es)) us) (parts_bounds es us p q)
levels_bounds _ _ p q = tt

bounds_kept : (t u : Ty) → bounds_fit t ≡ true → bounds_fit u ≡ true → IfSome (join t u) (λ w. bounds_fit w ≡ true)
bounds_kept = ind-Ty Bounds (λ x y is. subst (λ z. Bounds (roll-Ty z)) is (λ u p q.
    let z = map-Ty ((t : Ty) × Bounds t) Ty (λ e. e.0) y in
    subst (λ (o : Option Ty). IfSome o (λ w. bounds_fit w ≡ true)) (sym (join_at z u)) (levels_bounds y (out-Ty u) (sym (bounds_at z) ∙ p) (sym (bounds_open u) ∙ q))))

pub join_bounds : (t u w : Ty) → bounds_fit t ≡ true → bounds_fit u ≡ true → join t u ≡ Some w → bounds_fit w ≡ true
join_bounds t u w p q e = subst (λ o. IfSome o (λ w. bounds_fit w ≡ true)) e (bounds_kept t u p q)
