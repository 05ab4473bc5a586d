-- Accepted rows of weights have a table by rank.
use Rattle.std.proofs.Common.{◌≡◌, ◌∙◌, ℕ, ◌+◌, ◌<◌, ◌≤◌, ◌^◌, min, true, false, List, [], ◌∷◌, length, refl, ap, sym, subst, arith}
use Rattle.std.specs.Prelude.{Some, option_and_then, ◌==◌, nat_lt, sum_by, replicate, IsSomeAnd, Ok}
use Rattle.std.specs.List.{list_all, AllByRecursion}
use Rattle.std.proofs.lemmas.Bool.{and_from, eq-eqb, eqb-true, lt-ltb, ltb-true}
use Rattle.std.proofs.lemmas.List.Sums.{sum_by-cons}
use Rattle.og_types.specs.declared.ty.Ty.{Ty}
use Rattle.og_game.specs.Rows.{is_row, are_rows}
use Rattle.og_game.specs.Wired.{observations, values}
use Rattle.og_syntax.specs.declared.values.RowTree.{RowTree}
use Rattle.og_syntax.specs.declared.values.EntryTree.{EntryTree}
use Rattle.og_names.specs.Names.{lookup}
use Rattle.og_typing.specs.declared.fault.WireFault.TheVariants.{WrongType, NotOne, MissingRow, ScaleTooLarge}
use Rattle.og_typing.specs.declared.meaning.Meaning.{Meaning}
use Rattle.og_typing.specs.Checked.{◌>>=◌, ◌>>◌, rule, in_turn}
use Rattle.og_typing.specs.Types.{Table}
use Rattle.og_typing.specs.Values.{value_place, key_walk, new_row, row_taken, all_taken}
use Rattle.og_typing.proofs.Steps.{bind_ok, rule_holds}
use Rattle.og_inlining.specs.Steps.{provided, each_of, given_by}
use Rattle.og_inlining.proofs.Accepted.{one_answer, Each, each_nil, each_cons}
use Rattle.og_wires.specs.declared.rows.Choice.{Choice}
use Rattle.og_wires.specs.declared.rows.Drawn.{Drawn}
use Rattle.og_wires.specs.Rows.{rank_walk, is_divisor, lowest, with_denominator, entry_walk, row_walk, all_parts, each_one, weights_walk}
use Rattle.og_rows.specs.declared.ranked.Item.{Item}
use Rattle.og_rows.specs.declared.ranked.Ranked.{Ranked}
use Rattle.og_rows.specs.Rows.{parts_of, drawn_item, drawn_row, weighed, by_rank, have_table, drawn}
use Rattle.og_rows.proofs.Sums.{weights_row}
use Rattle.og_accepted.proofs.Ranks.{rank_kept, key_seen}
use Rattle.og_accepted.proofs.Tables.{all_there, Made, all_made, Tabled, tabled}

-- The weights of each row add up to the scale.
each_adds_up : (scale : ℕ) (rows : List RowTree) (u : Unit {0}) → each_one scale rows ≡ Ok u
    → AllByRecursion (λ row. all_parts scale row.entries ≡ scale) rows
each_adds_up scale [] u is = tt
each_adds_up scale (row ∷ rows) u is =
    let held = bind_ok (rule (all_parts scale row.entries == scale) (NotOne row.at)) (λ _. each_one scale rows) u is in (
      eqb-true (all_parts scale row.entries) scale
          (rule_holds (all_parts scale row.entries == scale) (NotOne row.at) held.0 held.1),
      each_adds_up scale rows u held.2,
    )

-- ---- a row's items

record Entries (declared : Table Meaning) (t : Ty) (scale : ℕ) (entries : List EntryTree) : Type 0 where
  items : List Item
  are : Each (drawn_item declared t scale) entries items
  below : list_all (λ item. nat_lt item.rank (values t)) items ≡ true
  weigh : sum_by (λ item. item.weight) items ≡ all_parts scale entries

-- a weight that doesn't stand still
weighs : (part more rest : ℕ) → more ≡ rest → part + rest ≤ 2 ^ 62 → min part (2 ^ 62) + more ≡ part + rest
weighs part more rest is small = omega (arith, is, small)

less : (part rest : ℕ) → part + rest ≤ 2 ^ 62 → rest ≤ 2 ^ 62
less part rest small = omega (arith, small)

no_more : (n scale : ℕ) → n ≡ scale → scale < 2 ^ 62 → n ≤ 2 ^ 62
no_more n scale is small = omega (arith, is, small)

no_less : (scale : ℕ) → scale < 2 ^ 62 → scale ≤ 2 ^ 62
no_less scale small = omega (arith, small)

row_with : (declared : Table Meaning) (observes : List Ty) (t : Ty) (scale : ℕ) (row : RowTree) (seen : ℕ) (items : List Item)
    → given_by (key_walk declared observes row.at row.key) ≡ Some seen
    → each_of (drawn_item declared t scale) [] row.entries ≡ Some items
    → drawn_row declared observes t scale row ≡ Some (record { seen = seen; items = items })
row_with declared observes t scale row seen items key are =
    ap (option_and_then (λ seen. option_and_then (λ items. Some (record { seen = seen; items = items }))
    (each_of (drawn_item declared t scale) [] row.entries))) key
    ∙ ap (option_and_then (λ items. Some (record { seen = seen; items = items }))) are

table_with : (declared : Table Meaning) (observes : List Ty) (t : Ty) (scale : ℕ) (rows : List RowTree) (made : List Ranked)
    (table : List (List (ℕ × ℕ))) → have_table observes t ≡ true
    → each_of (drawn_row declared observes t scale) [] rows ≡ Some made
    → by_rank (observations observes) (values t) made ≡ Some table → drawn declared observes t scale rows ≡ Some table
table_with declared observes t scale rows made table have are is =
    ap (λ b. option_and_then (λ _. option_and_then (by_rank (observations observes) (values t))
    (each_of (drawn_row declared observes t scale) [] rows)) (provided b)) have
    ∙ ap (option_and_then (by_rank (observations observes) (values t))) are
    ∙ is

table_there : (declared : Table Meaning) (observes : List Ty) (t : Ty) (scale : ℕ) (rows : List RowTree) (made : List Ranked)
    → have_table observes t ≡ true → each_of (drawn_row declared observes t scale) [] rows ≡ Some made
    → Tabled (is_row (values t) scale) (observations observes) (values t) made
    → IsSomeAnd (drawn declared observes t scale rows)
    (λ table. are_rows (observations observes) (values t) scale table ≡ true)
table_there declared observes t scale rows made have are table =
    subst (λ o. IsSomeAnd o (λ table. are_rows (observations observes) (values t) scale table ≡ true))
    (sym (table_with declared observes t scale rows made table.table have are table.is))
    (and_from (length table.table == observations observes) (list_all (is_row (values t) scale) table.table)
    (eq-eqb (length table.table) (observations observes) table.long) table.pass)

abbrev Weighs : Choice → ℕ → Ranked → Type 0
Weighs choice scale row = is_row (values choice.chosen) scale (weighed (values choice.chosen) row.items) ≡ true

abbrev HasTable : Table Meaning → Choice → List RowTree → ℕ → Type 0
HasTable declared choice rows scale =
    IsSomeAnd (drawn declared choice.observes choice.chosen scale rows)
    (λ table. are_rows (observations choice.observes) (values choice.chosen) scale table ≡ true)

abbrev begin : Choice → Drawn
begin choice = record { taken = replicate (observations choice.observes) false; scale = 1 }

module _ (before declared : Table Meaning)
    (known : (name : List ℕ) (m : Meaning) → lookup name before ≡ Some m → lookup name declared ≡ Some m) where
  entries_there : (t : Ty) (scale : ℕ) (entries : List EntryTree) (first after : Drawn)
      → in_turn (entry_walk before t) first entries ≡ Ok after
      → all_parts scale entries ≤ 2 ^ 62 → Entries declared t scale entries
  entries_there t scale [] first after is small =
      record { items = []; are = each_nil (drawn_item declared t scale); below = refl; weigh = refl }
  entries_there t scale (entry ∷ entries) first after is small =
      let walked = bind_ok (entry_walk before t first entry) (λ next. in_turn (entry_walk before t) next entries) after is in
      let ranked = bind_ok (rank_walk before t entry.value)
      (λ rank. row_taken (value_place entry.value) first.taken rank
      >>= (λ taken. rule (is_divisor entry.den) (WrongType (value_place entry.value))
      >> Ok (record { taken = taken; scale = with_denominator first.scale (lowest entry) }))) walked.0 walked.1 in
      let rank = rank_kept before declared known t entry.value ranked.0 ranked.1 in
      let rest = entries_there t scale entries walked.0 after walked.2
      (less (parts_of scale entry) (all_parts scale entries) small) in
      let item : Item = record { rank = ranked.0; weight = min (parts_of scale entry) (2 ^ 62) } in
      record {
        items = item ∷ rest.items;
        are = each_cons (drawn_item declared t scale) entry entries item rest.items
            (ap (option_and_then (λ rank. Some (record { rank = rank; weight = min (parts_of scale entry) (2 ^ 62) }))) rank.0)
            rest.are;
        below = and_from (nat_lt ranked.0 (values t)) (list_all (λ item. nat_lt item.rank (values t)) rest.items)
            (lt-ltb ranked.0 (values t) rank.1) rest.below;
        weigh = sum_by-cons (λ item. item.weight) item rest.items
            ∙ weighs (parts_of scale entry) (sum_by (λ item. item.weight) rest.items) (all_parts scale entries) rest.weigh small;
      }

  -- ---- rows

  row_there : (choice : Choice) (scale : ℕ) → scale < 2 ^ 62 → (row : RowTree) → all_parts scale row.entries ≡ scale
      → (first after : Drawn) → row_walk before choice first row ≡ Ok after
      → Made RowTree (drawn_row declared choice.observes choice.chosen scale) (Weighs choice scale) first.taken after.taken row
  row_there choice scale small row one first after is =
      let start : Drawn = record { taken = replicate (values choice.chosen) false; scale = first.scale } in
      let seen = bind_ok (new_row before choice.observes first.taken row.at row.key)
      (λ seen. in_turn (entry_walk before choice.chosen) start row.entries
      >>= (λ all. Ok (record { taken = seen; scale = all.scale }))) after is in
      let all = bind_ok (in_turn (entry_walk before choice.chosen) start row.entries)
      (λ all. Ok (record { taken = seen.0; scale = all.scale })) after seen.2 in
      let key = key_seen before declared known choice.observes row.at first.taken seen.0 row.key seen.1 in
      let entries = entries_there choice.chosen scale row.entries start all.0 all.1
      (no_more (all_parts scale row.entries) scale one small) in
      let last : Drawn = record { taken = seen.0; scale = all.0.scale } in
      record {
        it = record { seen = key.0; items = entries.items };
        is = row_with declared choice.observes choice.chosen scale row key.0 entries.items key.1 (entries.are []);
        flags = key.2 ∙ ap (λ d. d.taken) (one_answer (Ok last) last after refl all.2);
        passes = weights_row (values choice.chosen) scale entries.items entries.below (entries.weigh ∙ one) (no_less scale small);
      }

  rows_there : (choice : Choice) (scale : ℕ) → scale < 2 ^ 62 → (rows : List RowTree)
      → AllByRecursion (λ row. all_parts scale row.entries ≡ scale) rows
      → AllByRecursion (λ row. (first after : Drawn) → row_walk before choice first row ≡ Ok after
      → Made RowTree (drawn_row declared choice.observes choice.chosen scale) (Weighs choice scale) first.taken after.taken row)
      rows
  rows_there choice scale small [] ones = tt
  rows_there choice scale small (row ∷ rows) ones =
      (row_there choice scale small row ones.0, rows_there choice scale small rows ones.1)

  -- ---- tables

  all_weigh : (choice : Choice) → have_table choice.observes choice.chosen ≡ true → (rows : List RowTree) (all : Drawn)
      → in_turn (row_walk before choice) (begin choice) rows ≡ Ok all → list_all (λ flag. flag) all.taken ≡ true
      → all.scale < 2 ^ 62 → AllByRecursion (λ row. all_parts all.scale row.entries ≡ all.scale) rows
      → HasTable declared choice rows all.scale
  all_weigh choice have rows all is flags small ones =
      let observed = observations choice.observes in
      let count = values choice.chosen in
      let row = drawn_row declared choice.observes choice.chosen all.scale in
      let made = all_made Drawn RowTree (λ d. d.taken) (row_walk before choice) row (Weighs choice all.scale) rows
      (rows_there choice all.scale small rows ones) (begin choice) all is in
      table_there declared choice.observes choice.chosen all.scale rows made.those have (made.are [])
      (tabled (is_row count all.scale) observed count made.those made.pass
      (all_there observed made.those all.taken made.flags flags))

pub weights_there : (before declared : Table Meaning)
    → ((name : List ℕ) (m : Meaning) → lookup name before ≡ Some m → lookup name declared ≡ Some m)
    → (choice : Choice) → have_table choice.observes choice.chosen ≡ true
    → (at scale : ℕ) (rows : List RowTree) → weights_walk before choice at rows ≡ Ok scale
    → IsSomeAnd (drawn declared choice.observes choice.chosen scale rows)
    (λ table. are_rows (observations choice.observes) (values choice.chosen) scale table ≡ true)
weights_there before declared known choice have at scale rows is =
    let walked = bind_ok (in_turn (row_walk before choice) (begin choice) rows)
    (λ all. all_taken at all.taken
    >> (rule (nat_lt all.scale (2 ^ 62)) (ScaleTooLarge at) >> (each_one all.scale rows >> Ok all.scale))) scale is in
    let all = walked.0 in
    let full = bind_ok (all_taken at all.taken)
    (λ _. rule (nat_lt all.scale (2 ^ 62)) (ScaleTooLarge at) >> (each_one all.scale rows >> Ok all.scale)) scale walked.2 in
    let small = bind_ok (rule (nat_lt all.scale (2 ^ 62)) (ScaleTooLarge at)) (λ _. each_one all.scale rows >> Ok all.scale)
    scale full.2 in
    let ones = bind_ok (each_one all.scale rows) (λ _. Ok all.scale) scale small.2 in
    subst (HasTable declared choice rows) (one_answer (Ok all.scale) all.scale scale refl ones.2)
    (all_weigh before declared known choice have rows all walked.1
    (rule_holds (list_all (λ flag. flag) all.taken) (MissingRow at) full.0 full.1)
    (ltb-true all.scale (2 ^ 62) (rule_holds (nat_lt all.scale (2 ^ 62)) (ScaleTooLarge at) small.0 small.1))
    (each_adds_up all.scale rows ones.0 ones.1))
