-- What is observed and chosen, and rows of allowed actions and of weights.
use Rattle.std.specs.Prelude.{ℕ, ◌+◌, ◌*◌, ◌/◌, ◌^◌, ◌==◌, nat_le, nat_lt, ◌&&◌, min, if◌then◌else◌, Bool, false, List, [], ◌∷◌, ◌++◌, length, replicate, Ok}
use Rattle.og_frac.specs.Fraction.{greatest_common_divisor, least_common_multiple}
use Rattle.og_types.specs.declared.ty.Ty.{Ty}
use Rattle.og_types.specs.Ty.{is_finite}
use Rattle.og_types.specs.Values.{rank_of}
use Rattle.og_expr.specs.Counts.{capped}
use Rattle.og_game.specs.Wired.{observations, values}
use Rattle.og_syntax.specs.declared.types.TyTree.{TyTree}
use Rattle.og_syntax.specs.declared.values.ValueTree.{ValueTree}
use Rattle.og_syntax.specs.declared.values.RowTree.{RowTree}
use Rattle.og_syntax.specs.declared.values.EntryTree.{EntryTree}
use Rattle.og_syntax.specs.declared.games.Among.{Among}
use Rattle.og_syntax.specs.declared.games.AmongTree.{AmongTree}
use Rattle.og_typing.specs.declared.fault.WireFault.TheVariants.{WrongType, NotFinite, NotOne, TooManyValues, ScaleTooLarge}
use Rattle.og_typing.specs.declared.meaning.Meaning.{Meaning}
use Rattle.og_typing.specs.Checked.{Checked, ◌>>=◌, ◌>>◌, rule, in_turn}
use Rattle.og_typing.specs.Types.{Table, type_place, type_walk}
use Rattle.og_typing.specs.Expressions.{are_keys}
use Rattle.og_typing.specs.Values.{value_place, value_walk, new_row, rank_found, row_taken, all_taken}
use Rattle.og_typing.specs.Sizes.{with_parts}
use Rattle.og_wires.specs.declared.rows.Choice.{Choice}
use Rattle.og_wires.specs.declared.rows.Drawn.{Drawn}

-- ---- what is observed and chosen

-- a type with a list of values
abbrev pub finite_walk : Table Meaning → TyTree → Checked Ty
finite_walk declared written = do
  t ← type_walk written declared
  rule (is_finite t) (NotFinite (type_place written))
  rule (nat_le (values t) 4096) (TooManyValues (type_place written))
  Ok t

abbrev pub with_finite : Table Meaning → List Ty → TyTree → Checked (List Ty)
with_finite declared types written = do
  t ← finite_walk declared written
  Ok (types ++ t ∷ [])

-- what is observed, then what is chosen, with no more than 4,096 joint observations
abbrev pub choice_walk : Table Meaning → ℕ → List TyTree → TyTree → Checked Choice
choice_walk declared at observes chosen = do
  types ← in_turn (with_finite declared) [] observes
  t ← finite_walk declared chosen
  rule (are_keys types) (TooManyValues at)
  Ok (record { observes = types; chosen = t })

-- the rank of a value of the type
abbrev pub rank_walk : Table Meaning → Ty → ValueTree → Checked ℕ
rank_walk declared t v = do
  found ← value_walk declared t v
  rank_found (value_place v) (rank_of t found)

-- ---- allowed actions

-- The action is of the type, and new in its row.
abbrev pub action_walk : Table Meaning → Ty → List Bool → ValueTree → Checked (List Bool)
action_walk declared t taken v = do
  rank ← rank_walk declared t v
  row_taken (value_place v) taken rank

-- The observation is new, and the actions differ; there is one or more.
abbrev pub among_row : Table Meaning → Choice → List Bool → AmongTree → Checked (List Bool)
among_row declared choice taken row = do
  seen ← new_row declared choice.observes taken row.at row.key
  rule (nat_lt 0 (length row.actions)) (WrongType row.at)
  in_turn (action_walk declared choice.chosen) (replicate (values choice.chosen) false) row.actions
  Ok seen

abbrev pub among_walk : Table Meaning → Choice → Among → Checked (Unit {0})
among_walk declared choice among = do
  taken ← in_turn (among_row declared choice) (replicate (observations choice.observes) false) among.rows
  all_taken among.at taken

-- how many actions are written
abbrev pub actions_in : Among → ℕ
actions_in among = with_parts (λ row. capped (length row.actions)) 0 among.rows

-- ---- weights

-- above 0, and no greater than a text can write
abbrev pub is_divisor : ℕ → Bool
is_divisor n = nat_lt 0 n && nat_lt n (2 ^ 63)

-- the denominator in lowest terms
abbrev pub lowest : EntryTree → ℕ
lowest entry = entry.den / greatest_common_divisor entry.num entry.den

-- the least common multiple with one denominator more, which stands still at 2^62
abbrev pub with_denominator : ℕ → ℕ → ℕ
with_denominator scale den =
    if nat_lt scale (2 ^ 62) then min (least_common_multiple scale den) (2 ^ 62) else 2 ^ 62

-- The outcome is of the type, and new in its row.
abbrev pub entry_walk : Table Meaning → Ty → Drawn → EntryTree → Checked Drawn
entry_walk declared t drawn entry = do
  rank ← rank_walk declared t entry.value
  taken ← row_taken (value_place entry.value) drawn.taken rank
  rule (is_divisor entry.den) (WrongType (value_place entry.value))
  Ok (record { taken = taken; scale = with_denominator drawn.scale (lowest entry) })

-- The observation is new, and the outcomes differ.
abbrev pub row_walk : Table Meaning → Choice → Drawn → RowTree → Checked Drawn
row_walk declared choice drawn row = do
  seen ← new_row declared choice.observes drawn.taken row.at row.key
  all ← in_turn (entry_walk declared choice.chosen)
      (record { taken = replicate (values choice.chosen) false; scale = drawn.scale }) row.entries
  Ok (record { taken = seen; scale = all.scale })

-- a weight in so many parts of one
abbrev pub parts_of : ℕ → EntryTree → ℕ
parts_of scale entry = if entry.den == 0 then 0 else scale * entry.num / entry.den

abbrev pub all_parts : ℕ → List EntryTree → ℕ
all_parts scale [] = 0
all_parts scale (entry ∷ entries) = parts_of scale entry + all_parts scale entries

-- The weights of each row add up to one.
abbrev pub each_one : ℕ → List RowTree → Checked (Unit {0})
each_one scale [] = Ok tt
each_one scale (row ∷ rows) = do
  rule (all_parts scale row.entries == scale) (NotOne row.at)
  each_one scale rows

-- a row for each observation; what is given is the scale, the least common multiple of all denominators in lowest terms
abbrev pub weights_walk : Table Meaning → Choice → ℕ → List RowTree → Checked ℕ
weights_walk declared choice at rows = do
  drawn ← in_turn (row_walk declared choice)
      (record { taken = replicate (observations choice.observes) false; scale = 1 }) rows
  all_taken at drawn.taken
  rule (nat_lt drawn.scale (2 ^ 62)) (ScaleTooLarge at)
  each_one drawn.scale rows
  Ok drawn.scale

-- the scale of what is observed and drawn there
abbrev pub scale_walk : Table Meaning → ℕ → List TyTree → TyTree → List RowTree → Checked ℕ
scale_walk declared at observes outcome rows = do
  choice ← choice_walk declared at observes outcome
  weights_walk declared choice at rows

-- how many entries are written
abbrev pub entries_in : List RowTree → ℕ
entries_in rows = with_parts (λ row. capped (length row.entries)) 0 rows
