-- A block's laws have nothing to say where the values aren't of its ports.
use Rattle.std.proofs.Common.{◌≡◌, false, List, None}
use Rattle.og_types.specs.declared.value.Value.{Value}
use Rattle.og_native.specs.Ports.{are_inputs, are_both}
use Rattle.og_native.specs.Block.{forward_of, backward_of}
use Rattle.og_native.specs.declared.stored.StoredLens.{StoredLens}
use Rattle.og_native.proofs.LawfulLaws.{law_nowhere}

module _ {X Y : Type 0} {F : X → Type 0} {G : Y → Type 0} {f : _} {g : _} where
  pub forward_nowhere : (b : StoredLens X Y F G f g) (inputs : List Value) → are_inputs b.ports inputs ≡ false
      → forward_of b inputs ≡ None
  forward_nowhere b inputs h = law_nowhere _ _ _ inputs h

  pub backward_nowhere : (b : StoredLens X Y F G f g) (inputs returns : List Value)
      → are_both b.ports (inputs, returns) ≡ false → backward_of b inputs returns ≡ None
  backward_nowhere b inputs returns h = law_nowhere _ _ _ (inputs, returns) h
