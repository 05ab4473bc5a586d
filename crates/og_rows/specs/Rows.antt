-- Rows by ranks: for each observation what is drawn there with which weights, or which actions are allowed.
use Rattle.std.specs.Prelude.{ℕ, ◌+◌, ◌*◌, ◌/◌, ◌^◌, ◌==◌, nat_le, nat_lt, min, Bool, ◌&&◌, if◌then◌else◌, List, [], ◌∷◌, map, sum_by, Option, Some, None, slice_get, slice_set}
use Rattle.std.specs.List.{filter, range_with_len}
use Rattle.og_types.specs.declared.ty.Ty.{Ty}
use Rattle.og_types.specs.Ty.{is_finite}
use Rattle.og_types.specs.Values.{rank_of}
use Rattle.og_game.specs.Wired.{values, observations}
use Rattle.og_syntax.specs.declared.values.ValueTree.{ValueTree}
use Rattle.og_syntax.specs.declared.values.RowTree.{RowTree}
use Rattle.og_syntax.specs.declared.values.EntryTree.{EntryTree}
use Rattle.og_syntax.specs.declared.games.AmongTree.{AmongTree}
use Rattle.og_typing.specs.declared.meaning.Meaning.{Meaning}
use Rattle.og_typing.specs.Types.{Table}
use Rattle.og_typing.specs.Values.{value_walk, key_walk}
use Rattle.og_typing.specs.Expressions.{are_keys}
use Rattle.og_inlining.specs.Steps.{◌>>=◌, ◌>>◌, provided, each_of, given_by}
use Rattle.og_rows.specs.declared.ranked.Item.{Item}
use Rattle.og_rows.specs.declared.ranked.Ranked.{Ranked}

-- ---- rows with ranks

-- the rank of a value of the type
abbrev pub rank_in : Table Meaning → Ty → ValueTree → Option ℕ
rank_in declared t v = do
  found ← given_by (value_walk declared t v)
  rank_of t found

-- an entry's weight in so many parts of one
abbrev pub parts_of : ℕ → EntryTree → ℕ
parts_of scale entry = if entry.den == 0 then 0 else scale * entry.num / entry.den

-- Weights stand still at 2^62.
abbrev pub drawn_item : Table Meaning → Ty → ℕ → EntryTree → Option Item
drawn_item declared t scale entry = do
  rank ← rank_in declared t entry.value
  Some (record { rank = rank; weight = min (parts_of scale entry) (2 ^ 62) })

-- An action that is allowed weighs 1.
abbrev pub allowed_item : Table Meaning → Ty → ValueTree → Option Item
allowed_item declared t v = do
  rank ← rank_in declared t v
  Some (record { rank = rank; weight = 1 })

abbrev pub drawn_row : Table Meaning → List Ty → Ty → ℕ → RowTree → Option Ranked
drawn_row declared observes t scale row = do
  seen ← given_by (key_walk declared observes row.at row.key)
  items ← each_of (drawn_item declared t scale) [] row.entries
  Some (record { seen = seen; items = items })

abbrev pub allowed_row : Table Meaning → List Ty → Ty → AmongTree → Option Ranked
allowed_row declared observes t row = do
  seen ← given_by (key_walk declared observes row.at row.key)
  items ← each_of (allowed_item declared t) [] row.actions
  Some (record { seen = seen; items = items })

-- ---- tables by rank

abbrev pub weight_at : ℕ → Item → ℕ
weight_at rank item = if item.rank == rank then item.weight else 0

-- what the items of the rank weigh together, which stands still at 2^62
abbrev pub weight_in : List Item → ℕ → ℕ
weight_in items rank = min (sum_by (weight_at rank) items) (2 ^ 62)

abbrev pub noted_at : List ℕ → Item → Option ℕ → List ℕ
noted_at weights item None = weights
noted_at weights item (Some before) = slice_set weights item.rank (min (before + item.weight) (2 ^ 62))

-- the weights by rank with one item more, where they have its rank
abbrev pub noted : List ℕ → Item → List ℕ
noted weights item = noted_at weights item (slice_get weights item.rank)

abbrev pub weighs : ℕ × ℕ → Bool
weighs entry = nat_lt 0 entry.1

-- the numbers from the first on whose weights are something, each with its weight
abbrev pub those_that_weigh : ℕ → List ℕ → List (ℕ × ℕ)
those_that_weigh rank [] = []
those_that_weigh rank (weight ∷ weights) =
    if nat_lt 0 weight then (rank, weight) ∷ those_that_weigh (rank + 1) weights else those_that_weigh (rank + 1) weights

-- the ranks below the count that weigh something, ascending, each with its weight
abbrev pub weighed : ℕ → List Item → List (ℕ × ℕ)
weighed count items = filter weighs (map (λ rank. (rank, weight_in items rank)) (range_with_len 0 count))

-- the first row of the observation
abbrev pub row_of : List Ranked → ℕ → Option Ranked
row_of [] seen = None
row_of (row ∷ rows) seen = if row.seen == seen then Some row else row_of rows seen

abbrev pub weighed_if : ℕ → Option Ranked → Option (List (ℕ × ℕ))
weighed_if count None = None
weighed_if count (Some row) = Some (weighed count row.items)

-- a row for each of the observations below the count
abbrev pub by_rank : ℕ → ℕ → List Ranked → Option (List (List (ℕ × ℕ)))
by_rank observed count rows = each_of (λ seen. weighed_if count (row_of rows seen)) [] (range_with_len 0 observed)

-- ---- what a text writes

-- a finite type, of at most 4,096 values
abbrev pub is_chosen : Ty → Bool
is_chosen t = is_finite t && nat_le (values t) 4096

-- What is observed and what is chosen may have a table.
abbrev pub have_table : List Ty → Ty → Bool
have_table observes t = are_keys observes && is_chosen t

-- the weights of a nature's outcomes, in so many parts of one
abbrev pub drawn : Table Meaning → List Ty → Ty → ℕ → List RowTree → Option (List (List (ℕ × ℕ)))
drawn declared observes t scale rows = do
  provided (have_table observes t)
  ranked ← each_of (drawn_row declared observes t scale) [] rows
  by_rank (observations observes) (values t) ranked

abbrev pub ranks_of : List (ℕ × ℕ) → List ℕ
ranks_of = map (λ entry. entry.0)

-- the ranks of the actions that a decision allows
abbrev pub allowed : Table Meaning → List Ty → Ty → List AmongTree → Option (List (List ℕ))
allowed declared observes t rows = do
  provided (have_table observes t)
  ranked ← each_of (allowed_row declared observes t) [] rows
  sets ← by_rank (observations observes) (values t) ranked
  Some (map ranks_of sets)
