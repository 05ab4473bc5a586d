-- Types that are found to be the same are equal: what the impls of PartialEq and Eq cite.
use Rattle.std.proofs.Common.{◌≡◌, Bool, true, ◌&&◌, ◌==◌, List, [], ◌∷◌, map, ap, sym, subst, ◌∙◌, refl, eq-eqb, eqb-true}
use Rattle.std.specs.Prelude.{◌↔◌}
use Rattle.std.specs.Ordering.{int_eq}
use Rattle.std.specs.Cmp.Lexicographic.{pointwise}
use Rattle.std.proofs.lemmas.Bool.Decides.{Decides-int_eq}
use Rattle.std.proofs.lemmas.Bool.{and_parts}
use Rattle.og_types.specs.declared.ty.Ty.{Ty}
use Rattle.og_types.specs.declared.ty.Ty.TheOpen.{Ty-F}
use Rattle.og_types.specs.declared.ty.Ty.TheOpen as one
use Rattle.og_types.specs.declared.ty.Ty.TheViews.{out-Ty, roll-Ty, roll-out-Ty, out-roll-Ty}
use Rattle.og_types.specs.declared.ty.Ty.TheFolds.{fold-roll-Ty, map-Ty, ind-Ty}
use Rattle.og_types.specs.Ty.{same, same_step}

same_at : (z : Ty-F Ty) (w : Ty) → same (roll-Ty z) w ≡ same_step (map-Ty Ty (Ty → Bool) same z) (out-Ty w)
same_at z w = λ i. fold-roll-Ty (Ty → Bool) (λ v w. same_step v (out-Ty w)) z i w

-- the claim of a value, for all others
abbrev Claim : Ty → Type 0
Claim v = (w : Ty) → same v w ≡ true → v ≡ w

parts_equal : (es : List ((v : Ty) × Claim v)) (ws : List Ty)
    → pointwise (λ part other. part other) (map same (map (λ e. e.0) es)) ws ≡ true → map (λ e. e.0) es ≡ ws
parts_equal [] [] h = refl
parts_equal [] (w ∷ ws) h = absurd (cc)
parts_equal (e ∷ es) [] h = absurd (cc)
parts_equal (e ∷ es) (w ∷ ws) h =
    let both = and_parts (same e.0 w) (pointwise (λ part other. part other) (map same (map (λ e. e.0) es)) ws) h in
    (λ i. e.1 w both.0 i ∷ parts_equal es ws both.1 i)

levels_equal : (y : Ty-F ((v : Ty) × Claim v)) (z : Ty-F Ty)
    → same_step (map-Ty Ty (Ty → Bool) same (map-Ty ((v : Ty) × Claim v) Ty (λ e. e.0) y)) z ≡ true
    → map-Ty ((v : Ty) × Claim v) Ty (λ e. e.0) y ≡ z
levels_equal (one.Enum family cases) (one.Enum other count) e =
    let both = and_parts (family == other) (cases == count) e in
    (λ i. one.Enum (eqb-true family other both.0 i) (eqb-true cases count both.1 i))
levels_equal one.Bool one.Bool e = refl
levels_equal (one.Range low high) (one.Range from to) e =
    let both = and_parts (int_eq low from) (int_eq high to) e in
    (λ i. one.Range ((Decides-int_eq low from).0 both.0 i) ((Decides-int_eq high to).0 both.1 i))
levels_equal one.Number one.Number e = refl
levels_equal (one.Tuple es) (one.Tuple ws) e = ap one.Tuple (parts_equal es ws e)
levels_equal _ _ e = absurd (cc)

same_equal : (v w : Ty) → same v w ≡ true → v ≡ w
same_equal = ind-Ty Claim (λ x y is. subst (λ z. Claim (roll-Ty z)) is (λ w e.
    ap roll-Ty (levels_equal y (out-Ty w) (sym (same_at (map-Ty ((v : Ty) × Claim v) Ty (λ e. e.0) y) w) ∙ e))
    ∙ roll-out-Ty w))

parts_itself : (es : List ((v : Ty) × (same v v ≡ true)))
    → pointwise (λ part other. part other) (map same (map (λ e. e.0) es)) (map (λ e. e.0) es) ≡ true
parts_itself [] = refl
parts_itself (e ∷ es) = (λ i. e.1 i && parts_itself es i)

level_itself : (y : Ty-F ((v : Ty) × (same v v ≡ true)))
    → same_step (map-Ty Ty (Ty → Bool) same (map-Ty ((v : Ty) × (same v v ≡ true)) Ty (λ e. e.0) y))
    (map-Ty ((v : Ty) × (same v v ≡ true)) Ty (λ e. e.0) y) ≡ true
level_itself (one.Enum family cases) = (λ i. eq-eqb family family refl i && eq-eqb cases cases refl i)
level_itself one.Bool = refl
level_itself (one.Range low high) = (λ i. (Decides-int_eq low low).1 refl i && (Decides-int_eq high high).1 refl i)
level_itself one.Number = refl
level_itself (one.Tuple es) = parts_itself es

same_itself : (v : Ty) → same v v ≡ true
same_itself = ind-Ty (λ v. same v v ≡ true) (λ x y is. subst (λ z. same (roll-Ty z) (roll-Ty z) ≡ true) is
    (let z = map-Ty ((v : Ty) × (same v v ≡ true)) Ty (λ e. e.0) y in same_at z (roll-Ty z)
    ∙ ap (same_step (map-Ty Ty (Ty → Bool) same z)) (out-roll-Ty z) ∙ level_itself y))

pub same_decides : (v w : Ty) → (same v w ≡ true) ↔ (v ≡ w)
same_decides v w = (same_equal v w, λ e. ap (same v) (sym e) ∙ same_itself v)
