-- How the joins of two lists of types go on from place to place.
use Rattle.std.proofs.Common.{◌≡◌, ℕ, ◌+◌, ◌<◌, List, [], ◌∷◌, length, get_or, drop, map, append_assoc, ◌++◌, ◌≢◌, ap, sym, ◌∙◌, refl, arith}
use Rattle.std.specs.Prelude.{slice_get, Some, None, Option, option_and_then}
use Rattle.std.specs.Option.{option_map}
use Rattle.og_types.specs.declared.ty.Ty.{Ty}
use Rattle.og_types.specs.Ty.{join, joins}
use Rattle.og_list.proofs.Drop.{drop_at, drop_got}

-- how the joins go on, and where there is none
joins_at : (ts us : List Ty) (i : ℕ) (t u : Ty) → i < length ts → t ≡ get_or ts i t → slice_get us i ≡ Some u → joins (map join (drop i ts)) (drop i us) ≡ option_and_then (λ w. option_map (λ ws. w ∷ ws) (joins (map join (drop (i + 1) ts)) (drop (i + 1) us))) (join t u)
joins_at ts us i t u h p q = λ j. joins (map join (drop_at ts i t h p j)) (drop_got us i u q j)

pub joins_goes : (ts us all next : List Ty) (i : ℕ) (t u w : Ty) → i < length ts → t ≡ get_or ts i t → slice_get us i ≡ Some u → join t u ≡ Some w → next ≡ all ++ w ∷ [] → option_map (λ ws. next ++ ws) (joins (map join (drop (i + 1) ts)) (drop (i + 1) us)) ≡ option_map (λ ws. all ++ ws) (joins (map join (drop i ts)) (drop i us))
joins_goes ts us all next i t u w h p q e f = ap (λ before. option_map (λ ws. before ++ ws) (joins (map join (drop (i + 1) ts)) (drop (i + 1) us))) f ∙ sym (ap (option_map (λ ws. all ++ ws)) (joins_at ts us i t u h p q ∙ ap (option_and_then (λ w. option_map (λ ws. w ∷ ws) (joins (map join (drop (i + 1) ts)) (drop (i + 1) us)))) e) ∙ by (joins (map join (drop (i + 1) ts)) (drop (i + 1) us)))
  where
    by : (found : Option (List Ty)) → option_map (λ ws. all ++ ws) (option_map (λ ws. w ∷ ws) found) ≡ option_map (λ ws. (all ++ w ∷ []) ++ ws) found
    by None = refl
    by (Some ws) = ap Some (sym (append_assoc all (w ∷ []) ws))

pub joins_stops : (ts us all : List Ty) (i : ℕ) (t u : Ty) → i < length ts → t ≡ get_or ts i t → slice_get us i ≡ Some u → join t u ≡ None → None ≡ option_map (λ ws. all ++ ws) (joins (map join (drop i ts)) (drop i us))
joins_stops ts us all i t u h p q e = sym (ap (option_map (λ ws. all ++ ws)) (joins_at ts us i t u h p q ∙ ap (option_and_then (λ w. option_map (λ ws. w ∷ ws) (joins (map join (drop (i + 1) ts)) (drop (i + 1) us)))) e))

pub joins_short : (js : List (Ty → Option Ty)) (us : List Ty) → length js ≢ length us → None ≡ joins js us
joins_short [] [] h = absurd (h refl)
joins_short [] (u ∷ us) h = refl
joins_short (j ∷ js) [] h = refl
joins_short (j ∷ js) (u ∷ us) h = by (j u) (joins js us) (joins_short js us (λ e. h (omega arith)))
  where
    by : (one : Option Ty) (more : Option (List Ty)) → None ≡ more → None ≡ option_and_then (λ t. option_map (λ ts. t ∷ ts) more) one
    by None more e = refl
    by (Some t) more e = ap (option_map (λ ts. t ∷ ts)) e
