-- How a `Boxed` stores its value: what a type needs that reaches itself through a `Boxed` of itself.
use mathlib.Core.Path.{refl}
use mathlib.Core.Former.{Former, this, const, pair, via}
use base.Stored.{gnil}
use base.Fml.{ftrue}
use denote.RattleType.{RattleType}
use denote.Memory.{part_of}
use denote.RawPtr.{Ptr}
use denote.Sharing.{nothing}
use denote.HoleLaws.{Alike}
use denote.HolePlaces.{Recodes, struct_places, laid, one_value}
use denote.Hole.Fix.{over}
use denote.Param.Weighed.{Weighed}
use denote.Model.Placed.{view_places}
use Rattle.std.specs.declared.boxed.Box.{Box}
use Rattle.std.specs.contracts.boxed.Box as box
use Rattle.std.specs.declared.alloc.Global.{Global}
use Rattle.std.specs.contracts.alloc.Global as heap
use Rattle.std.specs.contracts.impls.GlobalAllocator.TheImpl.{ghosts}
use Rattle.og_list.specs.declared.boxed.Boxed.TheInside.{Inside}
use Rattle.og_list.specs.declared.boxed.Boxed.TheView.{view, invariant}
use Rattle.og_list.specs.contracts.boxed.Boxed as outer
use Rattle.og_list.specs.contracts.boxed.Boxed.TheInside as inner

-- just what the value's own former makes
abbrev pub the_former : Former {0} → Former {0}
the_former value = value

abbrev pub the_weighed : {value : Former {0}} → Weighed value → Weighed (the_former value)
the_weighed value = value

-- the one field, as its pointer beside the value
abbrev by_field : Former {0}
by_field = via (pair (const (Ptr × Global)) this) Inside (λ X fields.
    ((fields.held.ptr, fields.held.alloc), fields.held.value))
    (λ X v. record { held = record { ptr = v.0.0; alloc = v.0.1; value = v.1 } }) (λ X fields. refl) (λ X v. refl)

-- the same pointer to another value
abbrev pointing : {X Y : Type 0} → Box X Global → Y → Box Y Global
pointing b y = record { ptr = b.ptr; alloc = b.alloc; value = y }

abbrev box_of : RattleType → RattleType
box_of A = box.the_row A heap.the_row ghosts

module _ (A B : RattleType) (f : A.Denot → B.Denot) where
  box_places : Alike A B f → Alike (box_of A) (box_of B) (λ b. pointing b (f b.value))
  unfolding part_of
  box_places alike = record {
    mir_same = λ i. (box_of (one_value A (alike.mir_same i) (λ _. ftrue) (λ _ _. nothing) gnil)).mir;
    own_same = λ b i. (box_of (one_value A (alike.mir_same i) (alike.own_same b.value i)
        (alike.shr_same b.value i) gnil)).own_val (pointing b tt);
    shr_same = λ b i. (box_of (one_value A (alike.mir_same i) (alike.own_same b.value i)
        (alike.shr_same b.value i) gnil)).shr_at (pointing b tt);
  }

  pub the_places : Alike A B f → Alike (outer.the_row A) (outer.the_row B) ((the_former this).map A.Denot B.Denot f)
  the_places alike = view_places by_field this view (λ X Y k u. refl) (λ X u. refl) A.Denot B.Denot f
      (outer.the_row A).coded (outer.the_row B).coded (invariant A.Denot) (invariant B.Denot)
      (λ u p q. refl) (λ u p q. refl) (λ u e. tt) (λ u e. tt) (over (inner.the_row A)) (over (inner.the_row B))
      (struct_places (inner.the_type A) (inner.the_type B) ((λ b. pointing b (f b.value)), tt) _ (λ d. refl) refl
      (laid _ _ _ (box_places alike), tt))

  pub the_codes_placed : Recodes A B f
      → Recodes (outer.the_row A) (outer.the_row B) ((the_former this).map A.Denot B.Denot f)
  the_codes_placed same value = same value
