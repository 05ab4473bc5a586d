-- The laws of a block, as its two closures keep them, and the names of blocks.
use Rattle.std.specs.Prelude.{ℕ, List, map, Option}
use Rattle.og_types.specs.declared.value.Value.{Value}
use Rattle.og_native.specs.Options.{values_set}
use Rattle.og_native.specs.Lawful.{law_of}
use Rattle.og_native.specs.declared.stored.StoredLens.{StoredLens}

module _ {X Y : Type 0} {F : X → Type 0} {G : Y → Type 0} {f : _} {g : _} where
  -- From inputs to outputs. It is nothing where the inputs aren't of the block's ports.
  abbrev pub forward_of : StoredLens X Y F G f g → List Value → Option (List Value)
  forward_of b = law_of values_set b.play_lawful b.play_decides

  -- From inputs and returns to feedback. It is nothing where these aren't of the block's ports.
  abbrev pub backward_of : StoredLens X Y F G f g → List Value → List Value → Option (List Value)
  backward_of b inputs returns = law_of values_set b.pay_lawful b.pay_decides (inputs, returns)

  abbrev pub names_of : List (StoredLens X Y F G f g) → List (List ℕ)
  names_of blocks = map (λ b. b.name) blocks
