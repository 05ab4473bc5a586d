-- What a library answers by the number of a block. Where no block has the number, or the values aren't of the block's
-- ports, it is nothing.
use Rattle.std.specs.Prelude.{ℕ, List, slice_get, Option, option_and_then}
use Rattle.og_types.specs.declared.value.Value.{Value}
use Rattle.og_native.specs.Block.{forward_of, backward_of}
use Rattle.og_native.specs.declared.library.Library.{Library}

module _ {X Y : Type 0} {F : X → Type 0} {G : Y → Type 0} {f : _} {g : _} where
  abbrev pub plays_of : Library X Y F G f g → ℕ → List Value → Option (List Value)
  plays_of library number inputs =
      option_and_then (λ b. forward_of b inputs) (slice_get library.blocks.items number)

  abbrev pub pays_of : Library X Y F G f g → ℕ → List Value → List Value → Option (List Value)
  pays_of library number inputs returns =
      option_and_then (λ b. backward_of b inputs returns) (slice_get library.blocks.items number)
