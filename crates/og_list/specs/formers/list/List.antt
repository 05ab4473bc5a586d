-- How a `List` stores its items: what a type needs that reaches itself through a `List` of itself.
use mathlib.Core.Path.{◌≡◌, refl, sym}
use mathlib.Core.List.{List, []}
use mathlib.Core.Former.{Former, this, list, via, children}
use base.Stored.{code_map}
use denote.RattleType.{RattleType}
use denote.HoleLaws.{Alike}
use denote.HolePlaces.{Recodes, struct_places, laid}
use denote.Hole.Carrier.{listed, list-listed}
use denote.Hole.Fix.{over}
use denote.Param.Weighed.{Weighed, w_list}
use denote.Model.Placed.{view_places}
use Rattle.std.specs.formers.vec.Vec as vec
use Rattle.std.specs.declared.alloc.Global.{Global}
use Rattle.std.specs.contracts.alloc.Global as heap
use Rattle.std.specs.contracts.impls.GlobalAllocator.TheImpl.{ghosts}
use Rattle.og_list.specs.declared.list.List.TheInside.{Inside}
use Rattle.og_list.specs.declared.list.List.TheView.{view, invariant}
use Rattle.og_list.specs.contracts.list.List as outer
use Rattle.og_list.specs.contracts.list.List.TheInside as inner

-- a list of what the item's own former makes
abbrev pub the_former : Former {0} → Former {0}
the_former item = list item

abbrev pub the_weighed : {item : Former {0}} → Weighed item → Weighed (the_former item)
the_weighed item = w_list item

pub the_empty : List ⊥
the_empty = []

abbrev pub the_items : (X : Type 0) → List X → List X
the_items X xs = xs

pub the_items_listed : (X : Type 0) (xs : List X) → listed _ (children (the_former this) X xs) ≡ the_items X xs
the_items_listed X xs = list-listed X xs

-- the one field, by way of the vector that it is
abbrev by_field : Former {0}
by_field = via (vec.the_former this Global) Inside (λ X fields. fields.held) (λ X v. record {
  held =
      v;
}) (λ X fields. refl) (λ X v. refl)

module _ (A B : RattleType) (f : A.Denot → B.Denot) where
  pub the_places : Alike A B f → Alike (outer.the_row A) (outer.the_row B) ((the_former this).map A.Denot B.Denot f)
  the_places alike = view_places by_field (list this) view (λ X Y k u. refl) (λ X u. refl) A.Denot B.Denot f
      (outer.the_row A).coded (outer.the_row B).coded (invariant A.Denot) (invariant B.Denot)
      (λ u p q. refl) (λ u p q. refl) (λ u e. tt) (λ u e. tt) (over (inner.the_row A)) (over (inner.the_row B))
      (struct_places (inner.the_type A) (inner.the_type B) (vec.mapped f, tt) _ (λ d. refl) refl
      (laid _ _ _ (vec.the_places heap.the_row ghosts A B f alike), tt))

  pub the_codes_placed : Recodes A B f
      → Recodes (outer.the_row A) (outer.the_row B) ((the_former this).map A.Denot B.Denot f)
  the_codes_placed same xs = sym (code_map A.coded.code B.coded.code f (λ x. sym (same x)) xs)
