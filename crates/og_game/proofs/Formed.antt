-- Which tuples a text can write.
use Rattle.std.proofs.Common.{◌≡◌, ◌∙◌, Bool, ◌&&◌, List, length, map, ap, sym}
use Rattle.std.specs.Prelude.{nat_le}
use Rattle.std.specs.List.{list_all}
use Rattle.std.proofs.lemmas.List.{length-map}
use Rattle.std.proofs.lemmas.List.Folds.{list_all-map}
use Rattle.og_types.specs.declared.ty.Ty.{Ty}
use Rattle.og_types.specs.declared.ty.Ty.TheOpen as one
use Rattle.og_types.specs.declared.ty.Ty.TheFolds.{fold-roll-Ty}
use Rattle.og_types.specs.declared.ty.Ty.TheVariants as ty
use Rattle.og_native.specs.Ports.{is_formed, is_formed_step}

rolled : (ts : List Ty) → is_formed (ty.Tuple ts) ≡ is_formed_step (one.Tuple (map is_formed ts))
rolled ts = ap is_formed (sym (ty.rolls-Tuple ts)) ∙ fold-roll-Ty Bool is_formed_step (one.Tuple ts)

pub formed_tuple : (ts : List Ty) → is_formed (ty.Tuple ts) ≡ nat_le 2 (length ts) && list_all is_formed ts
formed_tuple ts = rolled ts ∙ (λ i. nat_le 2 (length-map ts is_formed i) && list_all-map (λ part. part) is_formed ts i)
