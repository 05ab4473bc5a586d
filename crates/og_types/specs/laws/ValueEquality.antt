-- Values that are found to be the same are equal: what the impls of PartialEq and Eq cite.
use Rattle.std.proofs.Common.{◌≡◌, Bool, true, false, ◌&&◌, ◌==◌, List, [], ◌∷◌, map, ap, sym, subst, ◌∙◌, refl, eq-eqb, eqb-true}
use Rattle.std.specs.Prelude.{◌↔◌}
use Rattle.std.specs.Ordering.{int_eq}
use Rattle.std.specs.Cmp.Lexicographic.{pointwise}
use Rattle.std.proofs.lemmas.Bool.Decides.{Decides-int_eq}
use Rattle.std.proofs.lemmas.Bool.{and_parts}
use Rattle.og_frac.specs.Fraction.{Fraction}
use Rattle.og_types.specs.declared.value.Value.{Value}
use Rattle.og_types.specs.declared.value.Value.TheOpen.{Value-F}
use Rattle.og_types.specs.declared.value.Value.TheOpen as one
use Rattle.og_types.specs.declared.value.Value.TheViews.{out-Value, roll-Value, roll-out-Value, out-roll-Value}
use Rattle.og_types.specs.declared.value.Value.TheFolds.{fold-roll-Value, map-Value, ind-Value}
use Rattle.og_types.specs.Value.{same, same_step, same_flag, same_fraction}

pub same_at : (z : Value-F Value) (w : Value)
    → same (roll-Value z) w ≡ same_step (map-Value Value (Value → Bool) same z) (out-Value w)
same_at z w = λ i. fold-roll-Value (Value → Bool) (λ v w. same_step v (out-Value w)) z i w

flags_equal : (a b : Bool) → same_flag a b ≡ true → a ≡ b
flags_equal true true e = refl
flags_equal true false e = absurd (cc)
flags_equal false true e = absurd (cc)
flags_equal false false e = refl

fractions_equal : (p q : Fraction) → same_fraction p q ≡ true → p ≡ q
fractions_equal p q e =
    let both = and_parts (int_eq p.numerator q.numerator) (p.denominator == q.denominator) e in
    (λ i. record {
      numerator = (Decides-int_eq p.numerator q.numerator).0 both.0 i;
      denominator =
          eqb-true p.denominator q.denominator both.1 i;
    })

-- the claim of a value, for all others
abbrev Claim : Value → Type 0
Claim v = (w : Value) → same v w ≡ true → v ≡ w

parts_equal : (es : List ((v : Value) × Claim v)) (ws : List Value)
    → pointwise (λ part other. part other) (map same (map (λ e. e.0) es)) ws ≡ true → map (λ e. e.0) es ≡ ws
parts_equal [] [] h = refl
parts_equal [] (w ∷ ws) h = absurd (cc)
parts_equal (e ∷ es) [] h = absurd (cc)
parts_equal (e ∷ es) (w ∷ ws) h =
    let both = and_parts (same e.0 w) (pointwise (λ part other. part other) (map same (map (λ e. e.0) es)) ws) h in
    (λ i. e.1 w both.0 i ∷ parts_equal es ws both.1 i)

levels_equal : (y : Value-F ((v : Value) × Claim v)) (z : Value-F Value)
    → same_step (map-Value Value (Value → Bool) same (map-Value ((v : Value) × Claim v) Value (λ e. e.0) y)) z
    ≡ true → map-Value ((v : Value) × Claim v) Value (λ e. e.0) y ≡ z
levels_equal (one.Case family index) (one.Case other at) e =
    let both = and_parts (family == other) (index == at) e in
    (λ i. one.Case (eqb-true family other both.0 i) (eqb-true index at both.1 i))
levels_equal (one.Flag a) (one.Flag b) e = ap one.Flag (flags_equal a b e)
levels_equal (one.Number p) (one.Number q) e = ap one.Number (fractions_equal p q e)
levels_equal (one.Tuple es) (one.Tuple ws) e = ap one.Tuple (parts_equal es ws e)
levels_equal _ _ e = absurd (cc)

pub same_equal : (v w : Value) → same v w ≡ true → v ≡ w
same_equal = ind-Value Claim (λ x y is. subst (λ z. Claim (roll-Value z)) is (λ w e.
    ap roll-Value (levels_equal y (out-Value w)
    (sym (same_at (map-Value ((v : Value) × Claim v) Value (λ e. e.0) y) w) ∙ e)) ∙ roll-out-Value w))

parts_itself : (es : List ((v : Value) × (same v v ≡ true)))
    → pointwise (λ part other. part other) (map same (map (λ e. e.0) es)) (map (λ e. e.0) es) ≡ true
parts_itself [] = refl
parts_itself (e ∷ es) = (λ i. e.1 i && parts_itself es i)

fraction_itself : (q : Fraction) → same_fraction q q ≡ true
fraction_itself q = (λ i. (Decides-int_eq q.numerator q.numerator).1 refl i
    && eq-eqb q.denominator q.denominator refl i)

level_itself : (y : Value-F ((v : Value) × (same v v ≡ true)))
    → same_step (map-Value Value (Value → Bool) same
    (map-Value ((v : Value) × (same v v ≡ true)) Value (λ e. e.0) y))
    (map-Value ((v : Value) × (same v v ≡ true)) Value (λ e. e.0) y) ≡ true
level_itself (one.Case family index) = (λ i. eq-eqb family family refl i && eq-eqb index index refl i)
level_itself (one.Flag true) = refl
level_itself (one.Flag false) = refl
level_itself (one.Number q) = fraction_itself q
level_itself (one.Tuple es) = parts_itself es

pub same_itself : (v : Value) → same v v ≡ true
same_itself = ind-Value (λ v. same v v ≡ true) (λ x y is. subst (λ z. same (roll-Value z) (roll-Value z) ≡ true) is
    (let z = map-Value ((v : Value) × (same v v ≡ true)) Value (λ e. e.0) y in same_at z (roll-Value z)
    ∙ ap (same_step (map-Value Value (Value → Bool) same z)) (out-roll-Value z) ∙ level_itself y))

pub same_decides : (v w : Value) → (same v w ≡ true) ↔ (v ≡ w)
same_decides v w = (same_equal v w, λ e. ap (same v) (sym e) ∙ same_itself v)
