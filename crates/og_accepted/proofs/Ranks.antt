-- Ranks that a walk found: they stay where more names are known, and are below the count of the type's values.
use Rattle.std.proofs.Common.{◌≡◌, ◌∙◌, ℕ, ◌<◌, Bool, true, List, ap}
use Rattle.std.specs.Prelude.{Option, Some, None, option_and_then, Ok, slice_set}
use Rattle.std.proofs.lemmas.Option.{slice_get_within}
use Rattle.og_types.specs.declared.ty.Ty.{Ty}
use Rattle.og_types.specs.Ty.{holds}
use Rattle.og_types.specs.Values.{values_of, rank_of}
use Rattle.og_types.proofs.RankLaws.{at_rank}
use Rattle.og_game.specs.Wired.{values}
use Rattle.og_syntax.specs.declared.values.ValueTree.{ValueTree}
use Rattle.og_names.specs.Names.{lookup}
use Rattle.og_typing.specs.declared.fault.WireFault.TheVariants.{WrongType}
use Rattle.og_typing.specs.declared.meaning.Meaning.{Meaning}
use Rattle.og_typing.specs.Checked.{◌>>◌, rule}
use Rattle.og_typing.specs.Types.{Table}
use Rattle.og_typing.specs.Values.{value_place, meant, value_walk, rank_found, key_walk, row_taken, new_row}
use Rattle.og_typing.proofs.Steps.{bind_ok}
use Rattle.og_inlining.specs.Steps.{given_by}
use Rattle.og_inlining.proofs.Kept.{walk_then, meant_kept, key_kept}
use Rattle.og_wires.specs.Rows.{rank_walk}
use Rattle.og_rows.specs.Rows.{rank_in}
use Rattle.og_accepted.proofs.Flags.{taken}

found_rank : (at : ℕ) (o : Option ℕ) (r : ℕ) → rank_found at o ≡ Ok r → o ≡ Some r
found_rank at None r is = cc
found_rank at (Some rank) r is = cc

module _ (before declared : Table Meaning)
    (known : (name : List ℕ) (m : Meaning) → lookup name before ≡ Some m → lookup name declared ≡ Some m) where
  pub rank_kept : (t : Ty) (v : ValueTree) (r : ℕ) → rank_walk before t v ≡ Ok r
      → (rank_in declared t v ≡ Some r) × (r < values t)
  rank_kept t v r is =
      let walked = bind_ok (value_walk before t v) (λ found. rank_found (value_place v) (rank_of t found)) r is in
      let rank = found_rank (value_place v) (rank_of t walked.0) r walked.2 in
      let stays = walk_then (meant v before) (meant v declared)
      (λ found. rule (holds t found) (WrongType (value_place v)) >> Ok found)
      (λ found. rule (holds t found) (WrongType (value_place v)) >> Ok found)
      (meant_kept before declared known v) (λ found a is. is) walked.0 walked.1 in (
        ap (λ walk. option_and_then (λ found. rank_of t found) (given_by walk)) stays ∙ rank,
        slice_get_within (values_of t) r walked.0 (at_rank t walked.0 r rank),
      )

  -- The key of a new row has a rank, which the row takes.
  pub key_seen : (ts : List Ty) (at : ℕ) (flags after : List Bool) (key : List ValueTree)
      → new_row before ts flags at key ≡ Ok after
      → (r : ℕ) × (given_by (key_walk declared ts at key) ≡ Some r) × (slice_set flags r true ≡ after)
  key_seen ts at flags after key is =
      let ranked = bind_ok (key_walk before ts at key) (row_taken at flags) after is in (
        ranked.0,
        ap given_by (key_kept before declared known ts at key ranked.0 ranked.1),
        (taken at flags after ranked.0 ranked.2).flags,
      )
