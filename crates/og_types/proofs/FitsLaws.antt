-- Fitting is an order of types, and a value of a type is one of each type that it fits.
use Rattle.std.proofs.Common.{◌≡◌, ℕ, ℤ, Bool, true, false, ◌&&◌, ◌==◌, List, [], ◌∷◌, map, ap, sym, subst, ◌∙◌, refl, arith, eq-eqb, eqb-true}
use Rattle.std.specs.Prelude.{int_le, nat_lt}
use Rattle.std.specs.Cmp.Lexicographic.{pointwise}
use Rattle.std.proofs.lemmas.Int.{ints}
use Rattle.std.proofs.lemmas.Bool.{and_from, and_parts}
use Rattle.og_frac.specs.Fraction.{Fraction}
use Rattle.og_types.specs.declared.value.Value.{Value}
use Rattle.og_types.specs.declared.value.Value.TheOpen.{Value-F}
use Rattle.og_types.specs.declared.value.Value.TheOpen as value
use Rattle.og_types.specs.declared.value.Value.TheViews.{out-Value}
use Rattle.og_types.specs.declared.ty.Ty.{Ty}
use Rattle.og_types.specs.declared.ty.Ty.TheOpen.{Ty-F}
use Rattle.og_types.specs.declared.ty.Ty.TheOpen as one
use Rattle.og_types.specs.declared.ty.Ty.TheViews.{out-Ty, roll-Ty, roll-out-Ty, out-roll-Ty}
use Rattle.og_types.specs.declared.ty.Ty.TheFolds.{fold-roll-Ty, map-Ty, ind-Ty}
use Rattle.og_types.specs.Ty.{same, fits, fits_step, holds, holds_step, is_between}
use Rattle.og_types.specs.laws.TyEquality.{same_decides}

pub fits_at : (z : Ty-F Ty) (w : Ty) → fits (roll-Ty z) w ≡ fits_step (map-Ty Ty (Ty → Bool) fits z) (out-Ty w)
fits_at z w = λ i. fold-roll-Ty (Ty → Bool) (λ t u. fits_step t (out-Ty u)) z i w

pub holds_at : (z : Ty-F Ty) (v : Value) → holds (roll-Ty z) v ≡ holds_step (map-Ty Ty (Value → Bool) holds z) (out-Value v)
holds_at z v = λ i. fold-roll-Ty (Value → Bool) (λ t v. holds_step t (out-Value v)) z i v

-- the same at any type
pub fits_open : (u w : Ty) → fits u w ≡ fits_step (map-Ty Ty (Ty → Bool) fits (out-Ty u)) (out-Ty w)
fits_open u w = ap (λ t. fits t w) (sym (roll-out-Ty u)) ∙ fits_at (out-Ty u) w

pub holds_open : (u : Ty) (v : Value) → holds u v ≡ holds_step (map-Ty Ty (Value → Bool) holds (out-Ty u)) (out-Value v)
holds_open u v = ap (λ t. holds t v) (sym (roll-out-Ty u)) ∙ holds_at (out-Ty u) v

-- numbers that are equal to the same number
pub nat_along : (a b c : ℕ) → (a == b) ≡ true → (b == c) ≡ true → (a == c) ≡ true
nat_along a b c p q = eq-eqb a c (eqb-true a b p ∙ eqb-true b c q)

pub int_le_itself : (a : ℤ) → int_le a a ≡ true
int_le_itself a = grind (arith, ints)

pub int_le_along : (a b c : ℤ) → int_le a b ≡ true → int_le b c ≡ true → int_le a c ≡ true
int_le_along a b c p q = grind (arith, ints)

int_le_both : (a b : ℤ) → int_le a b ≡ true → int_le b a ≡ true → a ≡ b
int_le_both a b p q = grind (arith, ints)

-- each type fits itself

parts_itself : (es : List ((t : Ty) × (fits t t ≡ true))) → pointwise (λ part other. part other) (map fits (map (λ e. e.0) es)) (map (λ e. e.0) es) ≡ true
parts_itself [] = refl
parts_itself (e ∷ es) = (λ i. e.1 i && parts_itself es i)

level_itself : (y : Ty-F ((t : Ty) × (fits t t ≡ true))) → fits_step (map-Ty Ty (Ty → Bool) fits (map-Ty ((t : Ty) × (fits t t ≡ true)) Ty (λ e. e.0) y)) (map-Ty ((t : Ty) × (fits t t ≡ true)) Ty (λ e. e.0) y) ≡ true
level_itself (one.Enum family cases) = and_from (family == family) (cases == cases) (eq-eqb family family refl) (eq-eqb cases cases refl)
level_itself one.Bool = refl
level_itself (one.Range low high) = and_from (int_le low low) (int_le high high) (int_le_itself low) (int_le_itself high)
level_itself one.Number = refl
level_itself (one.Tuple es) = parts_itself es

pub fits_itself : (t : Ty) → fits t t ≡ true
fits_itself = ind-Ty (λ t. fits t t ≡ true) (λ x y is. subst (λ z. fits (roll-Ty z) (roll-Ty z) ≡ true) is
    (let z = map-Ty ((t : Ty) × (fits t t ≡ true)) Ty (λ e. e.0) y in fits_at z (roll-Ty z) ∙ ap (fits_step (map-Ty Ty (Ty → Bool) fits z)) (out-roll-Ty z) ∙ level_itself y))

-- a type that fits one that fits another fits the other

abbrev Along : Ty → Type 0
Along t = (u w : Ty) → fits t u ≡ true → fits u w ≡ true → fits t w ≡ true

parts_along : (es : List ((t : Ty) × Along t)) (us ws : List Ty) → pointwise (λ part other. part other) (map fits (map (λ e. e.0) es)) us ≡ true → pointwise (λ part other. part other) (map fits us) ws ≡ true → pointwise (λ part other. part other) (map fits (map (λ e. e.0) es)) ws ≡ true
parts_along [] [] ws p q = q
parts_along [] (u ∷ us) ws p q = absurd (cc)
parts_along (e ∷ es) [] ws p q = absurd (cc)
parts_along (e ∷ es) (u ∷ us) [] p q = q
parts_along (e ∷ es) (u ∷ us) (w ∷ ws) p q =
    let first = and_parts (fits e.0 u) (pointwise (λ part other. part other) (map fits (map (λ e. e.0) es)) us) p in
    let second = and_parts (fits u w) (pointwise (λ part other. part other) (map fits us) ws) q in
    (λ i. e.1 u w first.0 second.0 i && parts_along es us ws first.1 second.1 i)

levels_along : (y : Ty-F ((t : Ty) × Along t)) (z x : Ty-F Ty) → fits_step (map-Ty Ty (Ty → Bool) fits (map-Ty ((t : Ty) × Along t) Ty (λ e. e.0) y)) z ≡ true → fits_step (map-Ty Ty (Ty → Bool) fits z) x ≡ true → fits_step (map-Ty Ty (Ty → Bool) fits (map-Ty ((t : Ty) × Along t) Ty (λ e. e.0) y)) x ≡ true
levels_along (one.Enum family cases) (one.Enum other count) (one.Enum last many) p q =
    let first = and_parts (family == other) (cases == count) p in
    let second = and_parts (other == last) (count == many) q in
    and_from (family == last) (cases == many) (nat_along family other last first.0 second.0) (nat_along cases count many first.1 second.1)
levels_along one.Bool one.Bool x p q = q
levels_along (one.Range low high) (one.Range from to) (one.Range least most) p q =
    let first = and_parts (int_le from low) (int_le high to) p in
    let second = and_parts (int_le least from) (int_le to most) q in
    and_from (int_le least low) (int_le high most) (int_le_along least from low second.0 first.0) (int_le_along high to most first.1 second.1)
levels_along (one.Range low high) (one.Range from to) one.Number p q = refl
levels_along (one.Range low high) one.Number one.Number p q = refl
levels_along one.Number one.Number x p q = q
levels_along (one.Tuple es) (one.Tuple us) (one.Tuple ws) p q = parts_along es us ws p q
levels_along _ _ _ p q = absurd (cc)

pub fits_along : (t u w : Ty) → fits t u ≡ true → fits u w ≡ true → fits t w ≡ true
fits_along = ind-Ty Along (λ x y is. subst (λ z. Along (roll-Ty z)) is (λ u w p q.
    let z = map-Ty ((t : Ty) × Along t) Ty (λ e. e.0) y in
    fits_at z w ∙ levels_along y (out-Ty u) (out-Ty w) (sym (fits_at z u) ∙ p) (sym (fits_open u w) ∙ q)))

-- types that fit each other are equal

abbrev Both : Ty → Type 0
Both t = (u : Ty) → fits t u ≡ true → fits u t ≡ true → t ≡ u

parts_both : (es : List ((t : Ty) × Both t)) (us : List Ty) → pointwise (λ part other. part other) (map fits (map (λ e. e.0) es)) us ≡ true → pointwise (λ part other. part other) (map fits us) (map (λ e. e.0) es) ≡ true → map (λ e. e.0) es ≡ us
parts_both [] [] p q = refl
parts_both [] (u ∷ us) p q = absurd (cc)
parts_both (e ∷ es) [] p q = absurd (cc)
parts_both (e ∷ es) (u ∷ us) p q =
    let first = and_parts (fits e.0 u) (pointwise (λ part other. part other) (map fits (map (λ e. e.0) es)) us) p in
    let second = and_parts (fits u e.0) (pointwise (λ part other. part other) (map fits us) (map (λ e. e.0) es)) q in
    (λ i. e.1 u first.0 second.0 i ∷ parts_both es us first.1 second.1 i)

levels_both : (y : Ty-F ((t : Ty) × Both t)) (z : Ty-F Ty) → fits_step (map-Ty Ty (Ty → Bool) fits (map-Ty ((t : Ty) × Both t) Ty (λ e. e.0) y)) z ≡ true → fits_step (map-Ty Ty (Ty → Bool) fits z) (map-Ty ((t : Ty) × Both t) Ty (λ e. e.0) y) ≡ true → map-Ty ((t : Ty) × Both t) Ty (λ e. e.0) y ≡ z
levels_both (one.Enum family cases) (one.Enum other count) p q =
    let both = and_parts (family == other) (cases == count) p in
    (λ i. one.Enum (eqb-true family other both.0 i) (eqb-true cases count both.1 i))
levels_both one.Bool one.Bool p q = refl
levels_both (one.Range low high) (one.Range from to) p q =
    let first = and_parts (int_le from low) (int_le high to) p in
    let second = and_parts (int_le low from) (int_le to high) q in
    (λ i. one.Range (int_le_both low from second.0 first.0 i) (int_le_both high to first.1 second.1 i))
levels_both one.Number one.Number p q = refl
levels_both (one.Tuple es) (one.Tuple us) p q = ap one.Tuple (parts_both es us p q)
levels_both _ _ p q = absurd (cc)

pub fits_both_ways : (t u : Ty) → fits t u ≡ true → fits u t ≡ true → t ≡ u
fits_both_ways = ind-Ty Both (λ x y is. subst (λ z. Both (roll-Ty z)) is (λ u p q.
    let z = map-Ty ((t : Ty) × Both t) Ty (λ e. e.0) y in
    ap roll-Ty (levels_both y (out-Ty u) (sym (fits_at z u) ∙ p) (sym (fits_open u (roll-Ty z) ∙ ap (fits_step (map-Ty Ty (Ty → Bool) fits (out-Ty u))) (out-roll-Ty z)) ∙ q)) ∙ roll-out-Ty u))

-- types are found to be the same where each fits the other
same_fits : (t u : Ty) → fits t u && fits u t ≡ same t u
same_fits t u = by (fits t u) (fits u t) (same t u) refl refl refl
  where
    by : (a b c : Bool) → fits t u ≡ a → fits u t ≡ b → same t u ≡ c → a && b ≡ c
    by true true true p q r = refl
    by true true false p q r =
        absurd (let found = (same_decides t u).1 (fits_both_ways t u p q) in cc)
    by true false true p q r =
        absurd (let found = ap (λ w. fits u w) ((same_decides t u).0 r) ∙ fits_itself u in cc)
    by true false false p q r = refl
    by false b true p q r =
        absurd (let found = ap (λ w. fits w u) ((same_decides t u).0 r) ∙ fits_itself u in cc)
    by false b false p q r = refl

pub same_where_fits : (t u : Ty) → fits t u ≡ true → fits u t ≡ same t u
same_where_fits t u p = ap (λ b. b && fits u t) (sym p) ∙ same_fits t u

pub same_nowhere_else : (t u : Ty) → fits t u ≡ false → false ≡ same t u
same_nowhere_else t u p = ap (λ b. b && fits u t) (sym p) ∙ same_fits t u

-- a value of a type is one of each type that it fits

between_wider : (low high from to : ℤ) (q : Fraction) → int_le from low && int_le high to ≡ true → is_between low high q ≡ true → is_between from to q ≡ true
between_wider low high from to q p h =
    let wider = and_parts (int_le from low) (int_le high to) p in
    let whole = and_parts (q.denominator == 1) (int_le low q.numerator && int_le q.numerator high) h in
    let within = and_parts (int_le low q.numerator) (int_le q.numerator high) whole.1 in
    and_from (q.denominator == 1) (int_le from q.numerator && int_le q.numerator to) whole.0
    (and_from (int_le from q.numerator) (int_le q.numerator to) (int_le_along from low q.numerator wider.0 within.0) (int_le_along q.numerator high to within.1 wider.1))

abbrev Passes : Ty → Type 0
Passes t = (u : Ty) (v : Value) → fits t u ≡ true → holds t v ≡ true → holds u v ≡ true

parts_pass : (es : List ((t : Ty) × Passes t)) (us : List Ty) (vs : List Value) → pointwise (λ part other. part other) (map fits (map (λ e. e.0) es)) us ≡ true → pointwise (λ part v. part v) (map holds (map (λ e. e.0) es)) vs ≡ true → pointwise (λ part v. part v) (map holds us) vs ≡ true
parts_pass [] [] vs p q = q
parts_pass [] (u ∷ us) vs p q = absurd (cc)
parts_pass (e ∷ es) [] vs p q = absurd (cc)
parts_pass (e ∷ es) (u ∷ us) [] p q = q
parts_pass (e ∷ es) (u ∷ us) (v ∷ vs) p q =
    let first = and_parts (fits e.0 u) (pointwise (λ part other. part other) (map fits (map (λ e. e.0) es)) us) p in
    let second = and_parts (holds e.0 v) (pointwise (λ part v. part v) (map holds (map (λ e. e.0) es)) vs) q in
    (λ i. e.1 u v first.0 second.0 i && parts_pass es us vs first.1 second.1 i)

levels_pass : (y : Ty-F ((t : Ty) × Passes t)) (z : Ty-F Ty) (x : Value-F Value) → fits_step (map-Ty Ty (Ty → Bool) fits (map-Ty ((t : Ty) × Passes t) Ty (λ e. e.0) y)) z ≡ true → holds_step (map-Ty Ty (Value → Bool) holds (map-Ty ((t : Ty) × Passes t) Ty (λ e. e.0) y)) x ≡ true → holds_step (map-Ty Ty (Value → Bool) holds z) x ≡ true
levels_pass (one.Enum family cases) (one.Enum other count) (value.Case last index) p q =
    let first = and_parts (family == other) (cases == count) p in
    let second = and_parts (family == last) (nat_lt index cases) q in
    and_from (other == last) (nat_lt index count) (eq-eqb other last (sym (eqb-true family other first.0) ∙ eqb-true family last second.0)) (ap (nat_lt index) (sym (eqb-true cases count first.1)) ∙ second.1)
levels_pass one.Bool one.Bool x p q = q
levels_pass (one.Range low high) (one.Range from to) (value.Number number) p q = between_wider low high from to number p q
levels_pass (one.Range low high) one.Number (value.Number number) p q = refl
levels_pass one.Number one.Number x p q = q
levels_pass (one.Tuple es) (one.Tuple us) (value.Tuple vs) p q = parts_pass es us vs p q
levels_pass _ _ _ p q = absurd (cc)

pub fits_values : (t u : Ty) (v : Value) → fits t u ≡ true → holds t v ≡ true → holds u v ≡ true
fits_values = ind-Ty Passes (λ x y is. subst (λ z. Passes (roll-Ty z)) is (λ u v p q.
    let z = map-Ty ((t : Ty) × Passes t) Ty (λ e. e.0) y in
    holds_open u v ∙ levels_pass y (out-Ty u) (out-Value v) (sym (fits_at z u) ∙ p) (sym (holds_at z v) ∙ q)))
