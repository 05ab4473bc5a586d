-- What types and values are without their places, at each form, and that there is nothing more to leave out.
use Rattle.std.proofs.Common.{◌≡◌, ℕ, ℤ, Bool, List, [], ◌∷◌, map, ap, sym, refl, subst, ◌∙◌}
use Rattle.og_syntax.specs.declared.types.TyTree.{TyTree}
use Rattle.og_syntax.specs.declared.types.TyTree.TheOpen.{TyTree-F}
use Rattle.og_syntax.specs.declared.types.TyTree.TheOpen as ty_level
use Rattle.og_syntax.specs.declared.types.TyTree.TheViews.{roll-TyTree}
use Rattle.og_syntax.specs.declared.types.TyTree.TheFolds.{fold-roll-TyTree, map-TyTree, ind-TyTree}
use Rattle.og_syntax.specs.declared.types.TyTree.TheVariants as tys
use Rattle.og_syntax.specs.declared.values.ValueTree.{ValueTree}
use Rattle.og_syntax.specs.declared.values.ValueTree.TheOpen.{ValueTree-F}
use Rattle.og_syntax.specs.declared.values.ValueTree.TheOpen as value_level
use Rattle.og_syntax.specs.declared.values.ValueTree.TheViews.{roll-ValueTree}
use Rattle.og_syntax.specs.declared.values.ValueTree.TheFolds.{fold-roll-ValueTree, map-ValueTree, ind-ValueTree}
use Rattle.og_syntax.specs.declared.values.ValueTree.TheVariants as values
use Rattle.og_syntax.specs.Unplaced.{ty_unplaced, ty_step, value_unplaced, value_step}

ty_name : (at : ℕ) (name : List ℕ) → ty_unplaced (tys.Name at name) ≡ tys.Name 0 name
ty_name at name = ap ty_unplaced (sym (tys.rolls-Name at name)) ∙ fold-roll-TyTree TyTree ty_step (ty_level.Name at name)

ty_bool : (at : ℕ) → ty_unplaced (tys.Bool at) ≡ tys.Bool 0
ty_bool at = ap ty_unplaced (sym (tys.rolls-Bool at)) ∙ fold-roll-TyTree TyTree ty_step (ty_level.Bool at)

ty_number : (at : ℕ) → ty_unplaced (tys.Number at) ≡ tys.Number 0
ty_number at = ap ty_unplaced (sym (tys.rolls-Number at)) ∙ fold-roll-TyTree TyTree ty_step (ty_level.Number at)

ty_range : (at : ℕ) (low high : ℤ) → ty_unplaced (tys.Range at low high) ≡ tys.Range 0 low high
ty_range at low high =
    ap ty_unplaced (sym (tys.rolls-Range at low high)) ∙ fold-roll-TyTree TyTree ty_step (ty_level.Range at low high)

pub ty_tuple : (at : ℕ) (ts : List TyTree) → ty_unplaced (tys.Tuple at ts) ≡ tys.Tuple 0 (map ty_unplaced ts)
ty_tuple at ts = ap ty_unplaced (sym (tys.rolls-Tuple at ts)) ∙ fold-roll-TyTree TyTree ty_step (ty_level.Tuple at ts)

-- a place is left out once and for all
abbrev Settled : TyTree → Type 0
Settled t = ty_unplaced (ty_unplaced t) ≡ ty_unplaced t

settled : (es : List ((t : TyTree) × Settled t)) → map ty_unplaced (map ty_unplaced (map (λ e. e.0) es)) ≡ map ty_unplaced (map (λ e. e.0) es)
settled [] = refl
settled (e ∷ es) = λ i. e.1 i ∷ settled es i

pub ty_twice : (t : TyTree) → Settled t
ty_twice = ind-TyTree Settled (λ x y is. subst (λ z. Settled (roll-TyTree z)) is (step y))
  where
    step : (y : TyTree-F ((t : TyTree) × Settled t)) → Settled (roll-TyTree (map-TyTree ((t : TyTree) × Settled t) TyTree (λ e. e.0) y))
    step (ty_level.Name at name) = subst Settled (sym (tys.rolls-Name at name)) (ap ty_unplaced (ty_name at name) ∙ ty_name 0 name ∙ sym (ty_name at name))
    step (ty_level.Bool at) = subst Settled (sym (tys.rolls-Bool at)) (ap ty_unplaced (ty_bool at) ∙ ty_bool 0 ∙ sym (ty_bool at))
    step (ty_level.Number at) = subst Settled (sym (tys.rolls-Number at)) (ap ty_unplaced (ty_number at) ∙ ty_number 0 ∙ sym (ty_number at))
    step (ty_level.Range at low high) = subst Settled (sym (tys.rolls-Range at low high)) (ap ty_unplaced (ty_range at low high) ∙ ty_range 0 low high ∙ sym (ty_range at low high))
    step (ty_level.Tuple at es) =
        let ts = map (λ e. e.0) es in
        subst Settled (sym (tys.rolls-Tuple at ts)) (ap ty_unplaced (ty_tuple at ts) ∙ ty_tuple 0 (map ty_unplaced ts) ∙ ap (tys.Tuple 0) (settled es) ∙ sym (ty_tuple at ts))

value_name : (at : ℕ) (name : List ℕ) → value_unplaced (values.Name at name) ≡ values.Name 0 name
value_name at name =
    ap value_unplaced (sym (values.rolls-Name at name)) ∙ fold-roll-ValueTree ValueTree value_step (value_level.Name at name)

value_flag : (at : ℕ) (flag : Bool) → value_unplaced (values.Flag at flag) ≡ values.Flag 0 flag
value_flag at flag =
    ap value_unplaced (sym (values.rolls-Flag at flag)) ∙ fold-roll-ValueTree ValueTree value_step (value_level.Flag at flag)

value_number : (at : ℕ) (number : ℤ) → value_unplaced (values.Number at number) ≡ values.Number 0 number
value_number at number =
    ap value_unplaced (sym (values.rolls-Number at number)) ∙ fold-roll-ValueTree ValueTree value_step (value_level.Number at number)

pub value_tuple : (at : ℕ) (vs : List ValueTree) → value_unplaced (values.Tuple at vs) ≡ values.Tuple 0 (map value_unplaced vs)
value_tuple at vs =
    ap value_unplaced (sym (values.rolls-Tuple at vs)) ∙ fold-roll-ValueTree ValueTree value_step (value_level.Tuple at vs)

abbrev SettledValue : ValueTree → Type 0
SettledValue v = value_unplaced (value_unplaced v) ≡ value_unplaced v

settled_values : (es : List ((v : ValueTree) × SettledValue v)) → map value_unplaced (map value_unplaced (map (λ e. e.0) es)) ≡ map value_unplaced (map (λ e. e.0) es)
settled_values [] = refl
settled_values (e ∷ es) = λ i. e.1 i ∷ settled_values es i

pub value_twice : (v : ValueTree) → SettledValue v
value_twice = ind-ValueTree SettledValue (λ x y is. subst (λ z. SettledValue (roll-ValueTree z)) is (step y))
  where
    step : (y : ValueTree-F ((v : ValueTree) × SettledValue v)) → SettledValue (roll-ValueTree (map-ValueTree ((v : ValueTree) × SettledValue v) ValueTree (λ e. e.0) y))
    step (value_level.Name at name) = subst SettledValue (sym (values.rolls-Name at name)) (ap value_unplaced (value_name at name) ∙ value_name 0 name ∙ sym (value_name at name))
    step (value_level.Flag at flag) = subst SettledValue (sym (values.rolls-Flag at flag)) (ap value_unplaced (value_flag at flag) ∙ value_flag 0 flag ∙ sym (value_flag at flag))
    step (value_level.Number at number) = subst SettledValue (sym (values.rolls-Number at number)) (ap value_unplaced (value_number at number) ∙ value_number 0 number ∙ sym (value_number at number))
    step (value_level.Tuple at es) =
        let vs = map (λ e. e.0) es in
        subst SettledValue (sym (values.rolls-Tuple at vs)) (ap value_unplaced (value_tuple at vs) ∙ value_tuple 0 (map value_unplaced vs) ∙ ap (values.Tuple 0) (settled_values es) ∙ sym (value_tuple at vs))
