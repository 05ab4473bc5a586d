-- Options of lists of values form a set: two of them are equal in one way at most.
use Rattle.std.specs.Prelude.{◌≡◌, ◌↔◌, Bool, true, false, Option, Some, None, List}
use Rattle.std.specs.Coded.{Coded-set, coded_bool}
use Rattle.std.specs.Cmp.Lexicographic.{pointwise, pointwise_decides}
use mathlib.Core.Path.{refl, ap}
use mathlib.Core.HLevel.{collapsible→set}
use Rattle.og_types.specs.declared.value.Value.{Value}
use Rattle.og_types.specs.Value.{same}
use Rattle.og_types.specs.laws.ValueEquality.{same_decides}

abbrev same_option : {A : Type 0} → (A → A → Bool) → Option A → Option A → Bool
same_option E None None = true
same_option E (Some x) (Some y) = E x y
same_option E _ _ = false

module _ {A : Type 0} (E : A → A → Bool) (decides : (x y : A) → (E x y ≡ true) ↔ (x ≡ y)) where
  abbrev tested : (x y : A) → x ≡ y → x ≡ y
  tested x y p = (decides x y).0 ((decides x y).1 p)

  tested_once : (x y : A) (p q : x ≡ y) → tested x y p ≡ tested x y q
  tested_once x y p q =
      ap (decides x y).0 (Coded-set coded_bool (E x y) true ((decides x y).1 p) ((decides x y).1 q))

  -- what a test tells apart is a set
  pub set_by : IsSet A
  set_by = collapsible→set tested tested_once

  pub options_decide : (o p : Option A) → (same_option E o p ≡ true) ↔ (o ≡ p)
  options_decide None None = (λ e. refl, λ e. refl)
  options_decide (Some x) (Some y) = (λ e. ap Some ((decides x y).0 e), λ e. (decides x y).1 (cc))
  options_decide None (Some y) = (λ e. absurd (cc), λ e. absurd (cc))
  options_decide (Some x) None = (λ e. absurd (cc), λ e. absurd (cc))

pub values_set : IsSet (Option (List Value))
values_set = set_by (same_option (pointwise same))
    (options_decide (pointwise same) (pointwise_decides {E = same} same_decides))
