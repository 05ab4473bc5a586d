-- The blocks of a library, one after another.
use Rattle.std.proofs.Common.{◌≡◌, ℕ, ◌+◌, ◌≤◌, zero, suc, List, [], ◌∷◌, length, drop, Some, None, refl, ap}
use Rattle.std.specs.Prelude.{slice_get}
use Rattle.std.proofs.lemmas.Option.{slice_get_past}
use Rattle.og_list.proofs.Drop.{drop_got}
use Rattle.og_native.specs.declared.stored.StoredLens.{StoredLens}
use Rattle.og_wires.specs.Sites.{Blocks, with_named, with_blocks}

drop_none : {A : Type 0} (xs : List A) (n : ℕ) → slice_get xs n ≡ None → drop n xs ≡ []
drop_none [] zero e = refl
drop_none [] (suc n) e = refl
drop_none (x ∷ xs) zero e = cc
drop_none (x ∷ xs) (suc n) e = drop_none xs n e

module _ {X Y : Type 0} {F : X → Type 0} {G : Y → Type 0} {f : _} {g : _} where
  pub blocks_next : (blocks : Blocks) (items : List (StoredLens X Y F G f g)) (n : ℕ) (b : StoredLens X Y F G f g)
      → slice_get items n ≡ Some b
      → with_blocks blocks (drop n items) ≡ with_blocks (with_named b.name b.ports blocks) (drop (n + 1) items)
  blocks_next blocks items n b is = ap (with_blocks blocks) (drop_got items n b is)

  pub blocks_end : (blocks : Blocks) (items : List (StoredLens X Y F G f g)) (n : ℕ) → slice_get items n ≡ None
      → with_blocks blocks (drop n items) ≡ blocks
  blocks_end blocks items n is = ap (with_blocks blocks) (drop_none items n is)

  pub blocks_all : (blocks : Blocks) (items : List (StoredLens X Y F G f g)) (n : ℕ) → length items ≤ n
      → with_blocks blocks (drop n items) ≡ blocks
  blocks_all blocks items n few = blocks_end blocks items n (slice_get_past items n few)
