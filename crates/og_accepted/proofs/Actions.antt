-- Accepted rows of allowed actions have a table by rank.
use Rattle.std.proofs.Common.{◌≡◌, ◌∙◌, ℕ, suc, ◌+◌, ◌<◌, ◌≤◌, ◌^◌, Bool, true, false, List, [], ◌∷◌, map, length, refl, ap, sym, subst, arith}
use Rattle.std.specs.Prelude.{Option, Some, option_and_then, ◌==◌, nat_le, nat_lt, sum_by, replicate, IsSomeAnd, Ok}
use Rattle.std.specs.List.{list_all, AllByRecursion}
use Rattle.std.proofs.lemmas.Bool.{and_parts, and_from, eq-eqb, lt-ltb, ltb-true, leb-true}
use Rattle.std.proofs.lemmas.List.{length-map}
use Rattle.std.proofs.lemmas.List.Folds.{list_all-map}
use Rattle.std.proofs.lemmas.List.Sums.{sum_by-cons}
use Rattle.og_types.specs.declared.ty.Ty.{Ty}
use Rattle.og_types.specs.Ty.{is_finite}
use Rattle.og_game.specs.Rows.{are_rising, is_set, are_allowed}
use Rattle.og_game.specs.Wired.{observations, values}
use Rattle.og_syntax.specs.declared.values.ValueTree.{ValueTree}
use Rattle.og_syntax.specs.declared.games.Among.{Among}
use Rattle.og_syntax.specs.declared.games.AmongTree.{AmongTree}
use Rattle.og_names.specs.Names.{lookup}
use Rattle.og_typing.specs.declared.fault.WireFault.TheVariants.{WrongType, MissingRow}
use Rattle.og_typing.specs.declared.meaning.Meaning.{Meaning}
use Rattle.og_typing.specs.Checked.{◌>>◌, rule, in_turn}
use Rattle.og_typing.specs.Types.{Table}
use Rattle.og_typing.specs.Values.{value_place, key_walk, new_row, row_taken, all_taken}
use Rattle.og_typing.specs.Expressions.{are_keys}
use Rattle.og_typing.proofs.Steps.{bind_ok, rule_holds}
use Rattle.og_inlining.specs.Steps.{provided, each_of, given_by}
use Rattle.og_inlining.proofs.Accepted.{one_answer, Each, each_nil, each_cons}
use Rattle.og_wires.specs.declared.rows.Choice.{Choice}
use Rattle.og_wires.specs.Rows.{rank_walk, action_walk, among_row, among_walk}
use Rattle.og_rows.specs.declared.ranked.Item.{Item}
use Rattle.og_rows.specs.declared.ranked.Ranked.{Ranked}
use Rattle.og_rows.specs.Rows.{allowed_item, allowed_row, weighed, by_rank, is_chosen, have_table, ranks_of, allowed}
use Rattle.og_rows.proofs.Sums.{ranks_rise, weighed_some}
use Rattle.og_accepted.proofs.Flags.{taken, trues, set_trues, set_length, none_true, count_of, few_trues}
use Rattle.og_accepted.proofs.Ranks.{rank_kept, key_seen}
use Rattle.og_accepted.proofs.Tables.{all_there, Made, all_made, Tabled, tabled}

-- What may have a table has few values.
few_values : (choice : Choice) → have_table choice.observes choice.chosen ≡ true → values choice.chosen ≤ 4096
few_values choice have =
    let both = and_parts (are_keys choice.observes) (is_chosen choice.chosen) have in
    leb-true (values choice.chosen) 4096 (and_parts (is_finite choice.chosen) (nat_le (values choice.chosen) 4096) both.1).1

-- ---- a row's items

record Actions (declared : Table Meaning) (t : Ty) (flags after : List Bool) (actions : List ValueTree) : Type 0 where
  items : List Item
  are : Each (allowed_item declared t) actions items
  below : list_all (λ item. nat_lt item.rank (values t)) items ≡ true
  weigh : sum_by (λ item. item.weight) items ≡ length actions
  more : trues after ≡ length actions + trues flags
  long : length after ≡ length flags

row_with : (declared : Table Meaning) (observes : List Ty) (t : Ty) (row : AmongTree) (seen : ℕ) (items : List Item)
    → given_by (key_walk declared observes row.at row.key) ≡ Some seen
    → each_of (allowed_item declared t) [] row.actions ≡ Some items
    → allowed_row declared observes t row ≡ Some (record { seen = seen; items = items })
row_with declared observes t row seen items key are =
    ap (option_and_then (λ seen. option_and_then (λ items. Some (record { seen = seen; items = items }))
    (each_of (allowed_item declared t) [] row.actions))) key
    ∙ ap (option_and_then (λ items. Some (record { seen = seen; items = items }))) are

abbrev Allows : Choice → Ranked → Type 0
Allows choice row = is_set (values choice.chosen) (ranks_of (weighed (values choice.chosen) row.items)) ≡ true

-- Actions that differ are no more than the values are.
few_actions : (actions more long none start count : ℕ) → more ≡ actions + none → none ≡ 0 → more ≤ long → long ≡ start
    → start ≡ count → count ≤ 4096 → actions ≤ 2 ^ 62
few_actions actions more long none start count p q r s t few = omega (arith, p, q, r, s, t, few)

module _ (before declared : Table Meaning)
    (known : (name : List ℕ) (m : Meaning) → lookup name before ≡ Some m → lookup name declared ≡ Some m) where
  actions_there : (t : Ty) (actions : List ValueTree) (flags after : List Bool)
      → in_turn (action_walk before t) flags actions ≡ Ok after → Actions declared t flags after actions
  actions_there t [] flags after is =
      let same = one_answer (Ok flags) flags after refl is in
      record {
        items = [];
        are = each_nil (allowed_item declared t);
        below = refl;
        weigh = refl;
        more = omega (arith, ap trues (sym same));
        long = ap length (sym same);
      }
  actions_there t (action ∷ actions) flags after is =
      let walked = bind_ok (action_walk before t flags action) (λ next. in_turn (action_walk before t) next actions) after is in
      let ranked = bind_ok (rank_walk before t action) (λ rank. row_taken (value_place action) flags rank) walked.0 walked.1 in
      let rank = rank_kept before declared known t action ranked.0 ranked.1 in
      let set = taken (value_place action) flags walked.0 ranked.0 ranked.2 in
      let rest = actions_there t actions walked.0 after walked.2 in
      let item : Item = record { rank = ranked.0; weight = 1 } in
      record {
        items = item ∷ rest.items;
        are = each_cons (allowed_item declared t) action actions item rest.items
            (ap (option_and_then (λ rank. Some (record { rank = rank; weight = 1 }))) rank.0) rest.are;
        below = and_from (nat_lt ranked.0 (values t)) (list_all (λ item. nat_lt item.rank (values t)) rest.items)
            (lt-ltb ranked.0 (values t) rank.1) rest.below;
        weigh = sum_by-cons (λ item. item.weight) item rest.items
            ∙ one (sum_by (λ item. item.weight) rest.items) (length actions) rest.weigh;
        more = behind (trues after) (length actions) (trues walked.0) (trues flags) rest.more
            (ap trues (sym set.flags) ∙ set_trues flags ranked.0 set.free);
        long = rest.long ∙ ap length (sym set.flags) ∙ set_length flags ranked.0;
      }
    where
      one : (m n : ℕ) → m ≡ n → 1 + m ≡ suc n
      one m n is = omega (arith, is)

      behind : (all n next first : ℕ) → all ≡ n + next → next ≡ suc first → all ≡ suc n + first
      behind all n next first p q = omega (arith, p, q)

  -- ---- rows

  row_there : (choice : Choice) → have_table choice.observes choice.chosen ≡ true → (row : AmongTree) (first after : List Bool)
      → among_row before choice first row ≡ Ok after
      → Made AmongTree (allowed_row declared choice.observes choice.chosen) (Allows choice) first after row
  row_there choice have row first after is =
      let start = replicate (values choice.chosen) false in
      let seen = bind_ok (new_row before choice.observes first row.at row.key)
      (λ seen. rule (nat_lt 0 (length row.actions)) (WrongType row.at)
      >> (in_turn (action_walk before choice.chosen) start row.actions >> Ok seen)) after is in
      let some = bind_ok (rule (nat_lt 0 (length row.actions)) (WrongType row.at))
      (λ _. in_turn (action_walk before choice.chosen) start row.actions >> Ok seen.0) after seen.2 in
      let all = bind_ok (in_turn (action_walk before choice.chosen) start row.actions) (λ _. Ok seen.0) after some.2 in
      let key = key_seen before declared known choice.observes row.at first seen.0 row.key seen.1 in
      let actions = actions_there choice.chosen row.actions start all.0 all.1 in
      let few = few_actions (length row.actions) (trues all.0) (length all.0) (trues start) (length start) (values choice.chosen)
      actions.more (none_true (values choice.chosen)) (few_trues all.0) actions.long (count_of (values choice.chosen))
      (few_values choice have) in
      let one = ltb-true 0 (length row.actions) (rule_holds (nat_lt 0 (length row.actions)) (WrongType row.at) some.0 some.1) in
      let set = weighed (values choice.chosen) actions.items in
      record {
        it = record { seen = key.0; items = actions.items };
        is = row_with declared choice.observes choice.chosen row key.0 actions.items key.1 (actions.are []);
        flags = key.2 ∙ one_answer (Ok seen.0) seen.0 after refl all.2;
        passes = and_from (nat_lt 0 (length (ranks_of set))) (are_rising 0 (values choice.chosen) (ranks_of set))
            (ap (nat_lt 0) (length-map set (λ entry. entry.0))
            ∙ lt-ltb 0 (length set) (weighed_some (values choice.chosen) actions.items actions.below
            (subst (λ n. n ≤ 2 ^ 62) (sym actions.weigh) few) (subst (λ n. 0 < n) (sym actions.weigh) one)))
            (ranks_rise (values choice.chosen) actions.items);
      }

  rows_there : (choice : Choice) → have_table choice.observes choice.chosen ≡ true → (rows : List AmongTree)
      → AllByRecursion (λ row. (first after : List Bool) → among_row before choice first row ≡ Ok after
      → Made AmongTree (allowed_row declared choice.observes choice.chosen) (Allows choice) first after row) rows
  rows_there choice have [] = tt
  rows_there choice have (row ∷ rows) = (row_there choice have row, rows_there choice have rows)

-- ---- tables

abbrev sets_of : ℕ → ℕ → List Ranked → Option (List (List ℕ))
sets_of observed count rows = option_and_then (λ sets. Some (map ranks_of sets)) (by_rank observed count rows)

sets_with : (declared : Table Meaning) (observes : List Ty) (t : Ty) (rows : List AmongTree) (made : List Ranked)
    (table : List (List (ℕ × ℕ))) → have_table observes t ≡ true → each_of (allowed_row declared observes t) [] rows ≡ Some made
    → by_rank (observations observes) (values t) made ≡ Some table
    → allowed declared observes t rows ≡ Some (map ranks_of table)
sets_with declared observes t rows made table have are is =
    ap (λ b. option_and_then (λ _. option_and_then (sets_of (observations observes) (values t))
    (each_of (allowed_row declared observes t) [] rows)) (provided b)) have
    ∙ ap (option_and_then (sets_of (observations observes) (values t))) are
    ∙ ap (option_and_then (λ sets. Some (map ranks_of sets))) is

sets_pass : (observed count : ℕ) (table : List (List (ℕ × ℕ))) → length table ≡ observed
    → list_all (λ set. is_set count (ranks_of set)) table ≡ true → are_allowed observed count (Some (map ranks_of table)) ≡ true
sets_pass observed count table long pass =
    and_from (length (map ranks_of table) == observed) (list_all (is_set count) (map ranks_of table))
    (eq-eqb (length (map ranks_of table)) observed (length-map table ranks_of ∙ long))
    (list_all-map (is_set count) ranks_of table ∙ pass)

sets_there : (declared : Table Meaning) (observes : List Ty) (t : Ty) (rows : List AmongTree) (made : List Ranked)
    → have_table observes t ≡ true → each_of (allowed_row declared observes t) [] rows ≡ Some made
    → Tabled (λ set. is_set (values t) (ranks_of set)) (observations observes) (values t) made
    → IsSomeAnd (allowed declared observes t rows) (λ sets. are_allowed (observations observes) (values t) (Some sets) ≡ true)
sets_there declared observes t rows made have are table =
    subst (λ o. IsSomeAnd o (λ sets. are_allowed (observations observes) (values t) (Some sets) ≡ true))
    (sym (sets_with declared observes t rows made table.table have are table.is))
    (sets_pass (observations observes) (values t) table.table table.long table.pass)

pub actions_allowed : (before declared : Table Meaning)
    → ((name : List ℕ) (m : Meaning) → lookup name before ≡ Some m → lookup name declared ≡ Some m)
    → (choice : Choice) → have_table choice.observes choice.chosen ≡ true
    → (among : Among) → among_walk before choice among ≡ Ok tt
    → IsSomeAnd (allowed declared choice.observes choice.chosen among.rows)
    (λ sets. are_allowed (observations choice.observes) (values choice.chosen) (Some sets) ≡ true)
actions_allowed before declared known choice have among is =
    let observed = observations choice.observes in
    let count = values choice.chosen in
    let row = allowed_row declared choice.observes choice.chosen in
    let start = replicate observed false in
    let walked = bind_ok (in_turn (among_row before choice) start among.rows) (λ flags. all_taken among.at flags) tt is in
    let made = all_made (List Bool) AmongTree (λ flags. flags) (among_row before choice) row (Allows choice) among.rows
    (rows_there before declared known choice have among.rows) start walked.0 walked.1 in
    let flags = rule_holds (list_all (λ flag. flag) walked.0) (MissingRow among.at) tt walked.2 in
    sets_there declared choice.observes choice.chosen among.rows made.those have (made.are [])
    (tabled (λ set. is_set count (ranks_of set)) observed count made.those made.pass
    (all_there observed made.those walked.0 made.flags flags))
