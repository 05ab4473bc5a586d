-- Accepted tables have trees whose types go as the ones that were found.
use Rattle.std.proofs.Common.{◌≡◌, ◌∙◌, ◌⊎◌, inl, inr, ℕ, zero, suc, ◌+◌, ◌<◌, ◌≤◌, Bool, true, false, List, [], ◌∷◌, ◌++◌, map, length, refl, ap, sym, subst, true≢false, arith}
use Rattle.std.specs.Prelude.{Option, Some, None, option_and_then, if◌then◌else◌, nat_le, nat_lt, not, ◌&&◌, ◌||◌, ◌==◌, replicate, slice_get, slice_set, Ok}
use Rattle.std.specs.Option.{option_map}
use Rattle.std.specs.List.{list_all, AllByRecursion}
use Rattle.std.proofs.lemmas.Bool.{and_parts, and_from, lt-ltb, eq-eqb}
use Rattle.std.proofs.lemmas.List.{append_assoc, append-nil, length-map}
use Rattle.std.proofs.lemmas.Option.{same_Some, none-some}
use Rattle.og_types.specs.declared.ty.Ty.{Ty}
use Rattle.og_types.specs.Ty.{fits, is_finite, bounds_fit}
use Rattle.og_types.specs.Values.{joint_values_of}
use Rattle.og_types.proofs.FitsLaws.{fits_itself, fits_along}
use Rattle.og_expr.specs.declared.node.NodeOf.TheVariants as nodes
use Rattle.og_expr.specs.declared.node.Key.{Key}
use Rattle.og_expr.specs.declared.node.Term.{Term}
use Rattle.og_expr.specs.Levels.{key_with, node_with}
use Rattle.og_expr.specs.Levels as terms
use Rattle.og_expr.specs.Types.{goes_as, key_fits, has_rows, join_all, type_rule, type_of}
use Rattle.og_expr.proofs.Narrower.{key_types_with}
use Rattle.og_syntax.specs.declared.expressions.ExprTree.{ExprTree}
use Rattle.og_syntax.specs.declared.expressions.ExprTree.TheOpen as forms
use Rattle.og_syntax.specs.declared.expressions.ResultTree.{ResultTree}
use Rattle.og_syntax.specs.declared.expressions.TableRow.{TableRow}
use Rattle.og_typing.specs.declared.fault.WireFault.TheVariants.{WrongType, NotFinite, TooManyValues, RowTwice, MissingRow}
use Rattle.og_typing.specs.declared.kind.Kind.{Kind}
use Rattle.og_typing.specs.declared.kind.Kinds.{Kinds}
use Rattle.og_typing.specs.declared.meaning.Meaning.{Meaning}
use Rattle.og_typing.specs.Checked.{◌>>=◌, ◌>>◌, rule, in_turn}
use Rattle.og_typing.specs.Levels.{row_with}
use Rattle.og_typing.specs.Levels as texts
use Rattle.og_typing.specs.Scopes.{Names}
use Rattle.og_typing.specs.Types.{Table, type_place, type_walk}
use Rattle.og_typing.specs.Values.{key_walk, is_taken, row_taken, new_row}
use Rattle.og_typing.specs.Expressions.{Rows, Part, part_of, expr_walk, kind, key_type, with_kind, keys_walk, row_walk, rows_from, are_keys, all_rows, rows_walk, table_walk, joined, join_found, settled}
use Rattle.og_typing.specs.Expressions as walks
use Rattle.og_typing.proofs.Steps.{bind_ok, rule_holds}
use Rattle.og_inlining.specs.Seen.{Seen}
use Rattle.og_inlining.specs.Steps.{each_of, given_by, provided}
use Rattle.og_inlining.specs.Trees.{Tree, built, occurs, key_tree, types_of, rank_in, ranks_of, where_is, places, order_of, row_there, rows_tree, tree_in, tree_rule}
use Rattle.og_inlining.specs.Sound.{seen_with, Fits}
use Rattle.og_inlining.proofs.Induction.{OfKey, OfRow}
use Rattle.og_inlining.proofs.Accepted.{Holds, holds_bind, holds_rule, holds_kind, one_answer, weaker, join_all_goes, Fitting, fitting_tree, built_goes, then_goes, Each, each_nil, each_cons}
use Rattle.og_inlining.proofs.Parts.{Sound, Under, found_join, joined_fits}
use Rattle.og_inlining.proofs.Composed.{one_some}
use Rattle.og_inlining.proofs.Types.{type_bounded}

-- ---- keys

record KeysFit (seen : Seen) (before after : List Ty) (keys : List (ResultTree ExprTree)) : Type 0 where
  trees : List (Key Term)
  are : Each (key_tree seen) (map (texts.key_with tree_in) keys) trees
  go : list_all key_fits (map (key_with type_of) trees) ≡ true
  behind : after ≡ before ++ types_of trees
  count : length trees ≡ length keys

abbrev OneKey : Seen → Ty → ResultTree ExprTree → Type 0
OneKey seen t key =
    (e : Term) × (key_tree seen (texts.key_with tree_in key) ≡ Some (record { expr = e; ty = t }))
    × (key_fits (record { expr = type_of e; ty = t }) ≡ true)

key_there : (seen : Seen) (key : ResultTree ExprTree) (e : Term) (t : Ty) → tree_in key.expr seen ≡ Some e
    → type_walk key.ty seen.declared ≡ Ok t
    → key_tree seen (texts.key_with tree_in key) ≡ Some (record { expr = e; ty = t })
key_there seen key e t p q =
    ap (option_and_then (λ e. option_and_then (λ t. Some (record { expr = e; ty = t })) (given_by (type_walk key.ty seen.declared)))) p
    ∙ ap (λ walk. option_and_then (λ t. Some (record { expr = e; ty = t })) (given_by walk)) q

key_fits_one : (names : Names) (given bodies : Table Term) → Fits names given bodies → (found : Kind) (t : Ty) (depth : ℕ) (key : ResultTree ExprTree)
    → Sound names (seen_with names given bodies) key.expr → expr_walk key.expr names depth ≡ Ok found
    → key_type (part_of key.expr).at key.ty names.declared found ≡ Ok t → OneKey (seen_with names given bodies) t key
key_fits_one names given bodies fit found t depth key sound walked is =
    let at = (part_of key.expr).at in
    let typed = bind_ok (type_walk key.ty names.declared)
    (λ t. rule (is_finite t) (NotFinite (type_place key.ty)) >> (rule (fits found.ty t) (WrongType at) >> Ok t)) t is in
    let finite = bind_ok (rule (is_finite typed.0) (NotFinite (type_place key.ty))) (λ _. rule (fits found.ty typed.0) (WrongType at) >> Ok typed.0) t typed.2 in
    let goes = bind_ok (rule (fits found.ty typed.0) (WrongType at)) (λ _. Ok typed.0) t finite.2 in
    let same = one_answer (Ok typed.0) typed.0 t refl goes.2 in
    let walk = subst (λ u. type_walk key.ty names.declared ≡ Ok u) same typed.1 in
    let there = fitting_tree found.ty (tree_in key.expr (seen_with names given bodies)) (sound depth found walked) in (
      there.tree,
      key_there (seen_with names given bodies) key there.tree t there.is walk,
      and_from (goes_as t (type_of there.tree)) (is_finite t && bounds_fit t)
          (weaker found.ty t (type_of there.tree) there.goes
          (subst (λ u. fits found.ty u ≡ true) same (rule_holds (fits found.ty typed.0) (WrongType at) goes.0 goes.1)))
          (and_from (is_finite t) (bounds_fit t)
          (subst (λ u. is_finite u ≡ true) same (rule_holds (is_finite typed.0) (NotFinite (type_place key.ty)) finite.0 finite.1))
          (type_bounded names.declared fit.types key.ty t walk)),
    )

keys_fit : (names : Names) (given bodies : Table Term) → Fits names given bodies → (depth : ℕ) (before after : Kinds)
    (keys : List (ResultTree ExprTree)) → AllByRecursion (OfKey (Sound names (seen_with names given bodies))) keys
    → in_turn (walks.key_walk names depth) before (map (texts.key_with part_of) keys) ≡ Ok after
    → KeysFit (seen_with names given bodies) before.types after.types keys
keys_fit names given bodies fit depth before after [] sound is =
    record {
      trees = [];
      are = each_nil (key_tree (seen_with names given bodies));
      go = refl;
      behind = sym (ap (λ k. k.types) (one_answer (Ok before) before after refl is)) ∙ sym (append-nil before.types);
      count = refl;
    }
keys_fit names given bodies fit depth before after (key ∷ keys) sound is =
    let walked = bind_ok (walks.key_walk names depth before (texts.key_with part_of key))
    (λ next. in_turn (walks.key_walk names depth) next (map (texts.key_with part_of) keys)) after is in
    let found = bind_ok (expr_walk key.expr names depth)
    (λ found. key_type (part_of key.expr).at key.ty names.declared found >>= (λ t. Ok (with_kind before t found.deep))) walked.0 walked.1 in
    let typed = bind_ok (key_type (part_of key.expr).at key.ty names.declared found.0) (λ t. Ok (with_kind before t found.0.deep)) walked.0 found.2 in
    let first = key_fits_one names given bodies fit found.0 typed.0 depth key sound.0 found.1 typed.1 in
    let rest = keys_fit names given bodies fit depth walked.0 after keys sound.1 walked.2 in
    let next = ap (λ k. k.types)
    (one_answer (Ok (with_kind before typed.0 found.0.deep)) (with_kind before typed.0 found.0.deep) walked.0 refl typed.2) in
    record {
      trees = record { expr = first.0; ty = typed.0 } ∷ rest.trees;
      are = each_cons (key_tree (seen_with names given bodies)) (texts.key_with tree_in key) (map (texts.key_with tree_in) keys)
          (record { expr = first.0; ty = typed.0 }) rest.trees first.1 rest.are;
      go = and_from (key_fits (record { expr = type_of first.0; ty = typed.0 })) (list_all key_fits (map (key_with type_of) rest.trees)) first.2 rest.go;
      behind = rest.behind ∙ ap (λ ts. ts ++ types_of rest.trees) (sym next) ∙ append_assoc before.types (typed.0 ∷ []) (types_of rest.trees);
      count = ap suc rest.count;
    }

-- ---- flags

-- how many are true
abbrev trues : List Bool → ℕ
trues [] = 0
trues (true ∷ bs) = suc (trues bs)
trues (false ∷ bs) = trues bs

set_trues : (bs : List Bool) (k : ℕ) → slice_get bs k ≡ Some false → trues (slice_set bs k true) ≡ suc (trues bs)
set_trues [] k is = absurd (none-some false is)
set_trues (true ∷ bs) zero is = cc
set_trues (false ∷ bs) zero is = refl
set_trues (true ∷ bs) (suc k) is = ap suc (set_trues bs k is)
set_trues (false ∷ bs) (suc k) is = set_trues bs k is

set_length : (bs : List Bool) (k : ℕ) → length (slice_set bs k true) ≡ length bs
set_length [] k = refl
set_length (b ∷ bs) zero = refl
set_length (b ∷ bs) (suc k) = ap suc (set_length bs k)

next_place : (o : Type 0) (r k : ℕ) → o ⊎ (r ≡ k) → o ⊎ (suc r ≡ suc k)
next_place o r k (inl h) = inl h
next_place o r k (inr h) = inr (ap suc h)

set_there : (bs : List Bool) (r k : ℕ) → slice_get (slice_set bs r true) k ≡ Some true → (slice_get bs k ≡ Some true) ⊎ (r ≡ k)
set_there [] r k is = absurd (none-some true is)
set_there (b ∷ bs) zero zero is = inr refl
set_there (b ∷ bs) zero (suc k) is = inl is
set_there (b ∷ bs) (suc r) zero is = inl is
set_there (b ∷ bs) (suc r) (suc k) is = next_place (slice_get bs k ≡ Some true) r k (set_there bs r k is)

none_true : (n : ℕ) → trues (replicate n false) ≡ 0
none_true zero = refl
none_true (suc n) = none_true n

never_true : (n k : ℕ) → slice_get (replicate n false) k ≡ Some true → (P : Type 0) → P
never_true zero k is P = absurd (none-some true is)
never_true (suc n) zero is P = absurd (true≢false (sym (same_Some false true is)))
never_true (suc n) (suc k) is P = never_true n k is P

count_of : (n : ℕ) → length (replicate n false) ≡ n
count_of zero = refl
count_of (suc n) = ap suc (count_of n)

all_true : (bs : List Bool) → list_all (λ b. b) bs ≡ true → trues bs ≡ length bs
all_true [] all = refl
all_true (true ∷ bs) all = ap suc (all_true bs all)
all_true (false ∷ bs) all = absurd (true≢false (sym all))

true_at : (bs : List Bool) → list_all (λ b. b) bs ≡ true → (k : ℕ) → k < length bs → slice_get bs k ≡ Some true
true_at [] all k below = absurd (omega (arith, below))
true_at (true ∷ bs) all zero below = refl
true_at (true ∷ bs) all (suc k) below = true_at bs all k (omega (arith, below))
true_at (false ∷ bs) all k below = absurd (true≢false (sym all))

not_taken : (o : Option Bool) → not (is_taken o) ≡ true → o ≡ Some false
not_taken None is = absurd (true≢false (sym is))
not_taken (Some true) is = absurd (true≢false (sym is))
not_taken (Some false) is = refl

-- ---- rows

record RowsFit (seen : Seen) (declared : Table Meaning) (types : List Ty) (w : Ty) (before : Rows) (after : List Bool)
    (rows : List (TableRow ExprTree)) : Type 0 where
  ranks : List ℕ
  are : Each (rank_in declared types) (map (row_with tree_in) rows) ranks
  bodies : AllByRecursion (λ row. Fitting w (tree_in row.body seen)) rows
  more : trues after ≡ length rows + trues before.taken
  long : length after ≡ length before.taken
  each : (k : ℕ) → slice_get after k ≡ Some true → (slice_get before.taken k ≡ Some true) ⊎ (occurs ranks k ≡ true)
  count : length ranks ≡ length rows
  under : Under before.found.ty w

one_or : (ranks : List ℕ) (r k : ℕ) (bs : List Bool)
    → (slice_get (slice_set bs r true) k ≡ Some true) ⊎ (occurs ranks k ≡ true)
    → (slice_get bs k ≡ Some true) ⊎ (occurs (r ∷ ranks) k ≡ true)
one_or ranks r k bs (inr h) = inr (either (r == k) h)
  where
    either : (b : Bool) → occurs ranks k ≡ true → (b || occurs ranks k) ≡ true
    either true h = refl
    either false h = h
one_or ranks r k bs (inl h) = by (set_there bs r k h)
  where
    by : (slice_get bs k ≡ Some true) ⊎ (r ≡ k) → (slice_get bs k ≡ Some true) ⊎ (occurs (r ∷ ranks) k ≡ true)
    by (inl there) = inl there
    by (inr same) = inr (ap (λ b. b || occurs ranks k) (eq-eqb r k same))

rows_fit : (names : Names) (seen : Seen) (depth : ℕ) (types : List Ty) (w : Ty) (before after : Rows)
    (rows : List (TableRow ExprTree)) → AllByRecursion (OfRow (Sound names seen)) rows
    → in_turn (row_walk names depth types) before (map (row_with part_of) rows) ≡ Ok after → Under after.found.ty w
    → RowsFit seen names.declared types w before after.taken rows
rows_fit names seen depth types w before after [] sound is under =
    let same = one_answer (Ok before) before after refl is in
    record {
      ranks = [];
      are = each_nil (rank_in {B = Tree} names.declared types);
      bodies = tt;
      more = omega (arith, ap (λ r. trues r.taken) (sym same));
      long = ap (λ r. length r.taken) (sym same);
      each = λ k h. inl (subst (λ r. slice_get r.taken k ≡ Some true) (sym same) h);
      count = refl;
      under = subst (λ r. Under r.found.ty w) (sym same) under;
    }
rows_fit names seen depth types w before after (row ∷ rows) sound is under =
    let walked = bind_ok (row_walk names depth types before (row_with part_of row))
    (λ next. in_turn (row_walk names depth types) next (map (row_with part_of) rows)) after is in
    let taking = bind_ok (new_row names.declared types before.taken row.at row.key)
    (λ taken. joined names depth before.found (part_of row.body) >>= (λ found. Ok (record { taken = taken; found = found }))) walked.0 walked.1 in
    let ranked = bind_ok (key_walk names.declared types row.at row.key) (row_taken row.at before.taken) taking.0 taking.1 in
    let held = bind_ok (rule (not (is_taken (slice_get before.taken ranked.0))) (RowTwice row.at))
    (λ _. Ok (slice_set before.taken ranked.0 true)) taking.0 ranked.2 in
    let free = not_taken (slice_get before.taken ranked.0) (rule_holds (not (is_taken (slice_get before.taken ranked.0))) (RowTwice row.at) held.0 held.1) in
    let body = bind_ok (joined names depth before.found (part_of row.body)) (λ found. Ok (record { taken = taking.0; found = found })) walked.0 taking.2 in
    let joins = joined_fits names seen depth before.found body.0 row.body sound.0 body.1 in
    let rest = rows_fit names seen depth types w walked.0 after rows sound.1 walked.2 under in
    let next = one_answer (Ok (record { taken = taking.0; found = body.0 })) (record { taken = taking.0; found = body.0 }) walked.0 refl body.2 in
    let flags = one_answer (Ok (slice_set before.taken ranked.0 true)) (slice_set before.taken ranked.0 true) taking.0 refl held.2 ∙ ap (λ r. r.taken) next in
    let into = rest.under joins.ty (sym (ap (λ r. r.found.ty) next) ∙ joins.is) in
    record {
      ranks = ranked.0 ∷ rest.ranks;
      are = each_cons (rank_in names.declared types) (row_with tree_in row) (map (row_with tree_in) rows) ranked.0 rest.ranks
          (ap given_by ranked.1) rest.are;
      bodies = (record { tree = joins.there.tree; is = joins.there.is; goes = weaker joins.ty w (type_of joins.there.tree) joins.there.goes into }, rest.bodies);
      more = rest.more ∙ ap (λ bs. length rows + trues bs) (sym flags) ∙ ap (λ n. length rows + n) (set_trues before.taken ranked.0 free) ∙ omega arith;
      long = rest.long ∙ ap length (sym flags) ∙ set_length before.taken ranked.0;
      each = λ k h. one_or rest.ranks ranked.0 k before.taken (moved ranked.0 k rest.ranks before.taken walked.0.taken flags (rest.each k h));
      count = ap suc rest.count;
      under = λ s some. fits_along s joins.ty w (joins.under s some) into;
    }
  where
    moved : (r k : ℕ) (ranks : List ℕ) (bs cs : List Bool) → slice_set bs r true ≡ cs
        → (slice_get cs k ≡ Some true) ⊎ (occurs ranks k ≡ true) → (slice_get (slice_set bs r true) k ≡ Some true) ⊎ (occurs ranks k ≡ true)
    moved r k ranks bs cs same (inl h) = inl (subst (λ ds. slice_get ds k ≡ Some true) (sym same) h)
    moved r k ranks bs cs same (inr h) = inr h

-- ---- the order of the rows

abbrev Found : ℕ → List ℕ → Option ℕ → Type 0
Found n ranks o = (at : ℕ) × (o ≡ Some at) × (at < n)

found_next : (k r : ℕ) (ranks : List ℕ) (b : Bool) → (b || occurs ranks k) ≡ true
    → (occurs ranks k ≡ true → Found (length ranks) ranks (where_is k ranks))
    → Found (suc (length ranks)) (r ∷ ranks) (if b then Some 0 else option_map (λ k. k + 1) (where_is k ranks))
found_next k r ranks true h further = (0, refl, omega arith)
found_next k r ranks false h further =
    let rest = further h in (rest.0 + 1, ap (option_map (λ k. k + 1)) rest.1, omega (arith, rest.2))

where_there : (ranks : List ℕ) (k : ℕ) → occurs ranks k ≡ true → Found (length ranks) ranks (where_is k ranks)
where_there [] k is = absurd (true≢false (sym is))
where_there (r ∷ ranks) k is = found_next k r ranks (r == k) is (where_there ranks k)

record Ordered (ranks : List ℕ) (k : ℕ) (more : List ℕ) : Type 0 where
  order : List ℕ
  are : (found : List ℕ) → places ranks k found more ≡ Some (found ++ order)
  below : AllByRecursion (λ at. at < length ranks) order
  count : length order ≡ length more

ordered : (ranks : List ℕ) (k : ℕ) (more : List ℕ) → ((j : ℕ) → k ≤ j → j < k + length more → occurs ranks j ≡ true)
    → Ordered ranks k more
ordered ranks k [] all = record { order = []; are = λ found. ap Some (sym (append-nil found)); below = tt; count = refl }
ordered ranks k (_ ∷ more) all =
    let first = where_there ranks k (all k (omega arith) (omega arith)) in
    let rest = ordered ranks (k + 1) more (λ j low high. all j (omega (arith, low)) (omega (arith, high))) in
    record {
      order = first.0 ∷ rest.order;
      are = λ found. ap (option_and_then (λ at. places ranks (k + 1) (found ++ at ∷ []) more)) first.1
          ∙ rest.are (found ++ first.0 ∷ []) ∙ ap Some (append_assoc found (first.0 ∷ []) rest.order);
      below = (first.2, rest.below);
      count = ap suc rest.count;
    }

row_found : (seen : Seen) (w : Ty) (rows : List (TableRow ExprTree)) → AllByRecursion (λ row. Fitting w (tree_in row.body seen)) rows
    → (at : ℕ) → at < length rows → Fitting w (row_there seen (map (row_with tree_in) rows) at)
unfolding row_there
row_found seen w [] all at below = absurd (omega (arith, below))
row_found seen w (row ∷ rows) all zero below = all.0
row_found seen w (row ∷ rows) all (suc at) below = row_found seen w rows all.1 at (omega (arith, below))

record BodiesFit (seen : Seen) (w : Ty) (rows : List (TableRow ExprTree)) (order : List ℕ) : Type 0 where
  trees : List Term
  are : Each (row_there seen (map (row_with tree_in) rows)) order trees
  go : list_all (goes_as w) (map type_of trees) ≡ true
  count : length trees ≡ length order

bodies_fit : (seen : Seen) (w : Ty) (rows : List (TableRow ExprTree)) → AllByRecursion (λ row. Fitting w (tree_in row.body seen)) rows
    → (order : List ℕ) → AllByRecursion (λ at. at < length rows) order → BodiesFit seen w rows order
bodies_fit seen w rows all [] below =
    record { trees = []; are = each_nil (row_there seen (map (row_with tree_in) rows)); go = refl; count = refl }
bodies_fit seen w rows all (at ∷ order) below =
    let first = row_found seen w rows all at below.0 in
    let rest = bodies_fit seen w rows all order below.1 in
    record {
      trees = first.tree ∷ rest.trees;
      are = each_cons (row_there seen (map (row_with tree_in) rows)) at order first.tree rest.trees first.is rest.are;
      go = and_from (goes_as w (type_of first.tree)) (list_all (goes_as w) (map type_of rest.trees)) first.goes rest.go;
      count = ap suc rest.count;
    }

-- ---- tables

-- what the rows of a table with keys of these types are
record Complete (seen : Seen) (declared : Table Meaning) (types : List Ty) (t : Ty) (rows : List (TableRow ExprTree)) : Type 0 where
  order : List ℕ
  are : order_of declared types (map (row_with tree_in) rows) ≡ Some order
  trees : List Term
  give : Each (row_there seen (map (row_with tree_in) rows)) order trees
  go : list_all (goes_as t) (map type_of trees) ≡ true
  count : length trees ≡ length rows
  full : length rows ≡ length (joint_values_of types)

rank_found : (count k : ℕ) (ranks : List ℕ) → (slice_get (replicate count false) k ≡ Some true) ⊎ (occurs ranks k ≡ true)
    → occurs ranks k ≡ true
rank_found count k ranks (inl h) = never_true count k h (occurs ranks k ≡ true)
rank_found count k ranks (inr h) = h

ranks_there : (seen : Seen) (declared : Table Meaning) (types : List Ty) (rows : List (TableRow ExprTree)) (ranks order : List ℕ)
    → are_keys types ≡ true → each_of (rank_in declared types) [] (map (row_with tree_in) rows) ≡ Some ranks
    → places ranks 0 [] ranks ≡ Some order → order_of declared types (map (row_with tree_in) rows) ≡ Some order
unfolding ranks_of
ranks_there seen declared types rows ranks order keyed are sorted =
    ap (λ b. option_and_then (λ ranks. places ranks 0 [] ranks)
    (option_and_then (λ _. each_of (rank_in declared types) [] (map (row_with tree_in) rows)) (provided b))) keyed
    ∙ ap (option_and_then (λ ranks. places ranks 0 [] ranks)) are
    ∙ sorted

complete : (names : Names) (seen : Seen) (depth deep : ℕ) (types : List Ty) (all : Rows) (t : Ty) (rows : List (TableRow ExprTree))
    → are_keys types ≡ true → AllByRecursion (OfRow (Sound names seen)) rows
    → in_turn (row_walk names depth types) (rows_from (replicate (length (joint_values_of types)) false) deep) (map (row_with part_of) rows) ≡ Ok all
    → list_all (λ flag. flag) all.taken ≡ true → all.found.ty ≡ Some t → Complete seen names.declared types t rows
complete names seen depth deep types all t rows keyed sound is flags some =
    let count = length (joint_values_of types) in
    let fit = rows_fit names seen depth types t (rows_from (replicate count false) deep) all rows sound is
    (λ s same. subst (λ u. fits s u ≡ true) (same_Some s t (sym same ∙ some)) (fits_itself s)) in
    let long = fit.long ∙ count_of count in
    let full = all_full (length rows) count (trues all.taken) (length all.taken) (trues (replicate count false))
    fit.more (none_true count) (all_true all.taken flags) long in
    let sorted = ordered fit.ranks 0 fit.ranks (λ j low high. rank_found count j fit.ranks
    (fit.each j (true_at all.taken flags j (inside j (length fit.ranks) (length rows) count (length all.taken) high fit.count full long)))) in
    let bodies = bodies_fit seen t rows fit.bodies sorted.order (subst (λ n. AllByRecursion (λ at. at < n) sorted.order) fit.count sorted.below) in
    record {
      order = sorted.order;
      are = ranks_there seen names.declared types rows fit.ranks sorted.order keyed (fit.are []) (sorted.are []);
      trees = bodies.trees;
      give = bodies.are;
      go = bodies.go;
      count = bodies.count ∙ sorted.count ∙ fit.count;
      full = full;
    }
  where
    all_full : (rows count more long none : ℕ) → more ≡ rows + none → none ≡ 0 → more ≡ long → long ≡ count → rows ≡ count
    all_full rows count more long none p q r s = omega (arith, p, q, r, s)

    inside : (j ranks rows count long : ℕ) → j < 0 + ranks → ranks ≡ rows → rows ≡ count → long ≡ count → j < long
    inside j ranks rows count long below p q r = omega (arith, below, p, q, r)

rows_some : (names : Names) (depth deep : ℕ) (types : List Ty) (taken : List Bool) (all : Rows) (t : Ty) (rows : List (TableRow ExprTree))
    → in_turn (row_walk names depth types) (rows_from taken deep) (map (row_with part_of) rows) ≡ Ok all → all.found.ty ≡ Some t
    → nat_lt 0 (length rows) ≡ true
rows_some names depth deep types taken all t [] is some =
    absurd (none-some t (ap (λ r. r.found.ty) (one_answer (Ok (rows_from taken deep)) (rows_from taken deep) all refl is) ∙ some))
rows_some names depth deep types taken all t (row ∷ rows) is some = lt-ltb 0 (suc (length rows)) (omega arith)

-- The type of a table with keys that fit, and a row that goes for each of their joint values, goes.
typed_table : (t : Ty) (keys : List (Key Term)) (rows : List Term) → nat_lt 0 (length keys) ≡ true
    → list_all key_fits (map (terms.key_with type_of) keys) ≡ true
    → length rows ≡ length (joint_values_of (types_of keys)) → nat_le (length (joint_values_of (types_of keys))) 4096 ≡ true
    → nat_lt 0 (length rows) ≡ true → list_all (goes_as t) (map type_of rows) ≡ true
    → goes_as t (type_rule (node_with type_of (nodes.Table keys rows))) ≡ true
typed_table t keys rows some fit full few bodies go =
    ap (λ b. goes_as t (if b then join_all (map type_of rows) else None))
    (and_from (nat_lt 0 (length (map (terms.key_with type_of) keys))) _
    (ap (nat_lt 0) (length-map keys (terms.key_with type_of)) ∙ some)
    (and_from (list_all key_fits (map (terms.key_with type_of) keys)) _ fit
    (ap (λ ts. has_rows ts (length (map type_of rows))) (key_types_with type_of keys)
    ∙ ap (has_rows (types_of keys)) (length-map rows type_of ∙ full)
    ∙ and_from (length (joint_values_of (types_of keys)) == length (joint_values_of (types_of keys))) _
    (eq-eqb (length (joint_values_of (types_of keys))) (length (joint_values_of (types_of keys))) refl) few)))
    ∙ join_all_goes t (map type_of rows) (ap (nat_lt 0) (length-map rows type_of) ∙ bodies) go

pub table_holds : (names : Names) (given bodies : Table Term) → Fits names given bodies → (depth at : ℕ)
    (keys : List (ResultTree ExprTree)) (rows : List (TableRow ExprTree))
    → AllByRecursion (OfKey (Sound names (seen_with names given bodies))) keys
    → AllByRecursion (OfRow (Sound names (seen_with names given bodies))) rows
    → Holds (table_walk at names depth (map (texts.key_with part_of) keys) (map (row_with part_of) rows))
    (tree_rule (forms.Table at (map (texts.key_with tree_in) keys) (map (row_with tree_in) rows)) (seen_with names given bodies))
unfolding table_walk tree_rule rows_tree
table_holds names given bodies fit depth at keys rows first second =
    let seen = seen_with names given bodies in
    holds_bind (keys_walk at names depth (map (texts.key_with part_of) keys)) _ _ (λ found keyed.
    holds_rule (are_keys found.types) (TooManyValues at) _ _ (λ few.
    holds_bind (in_turn (row_walk names (depth + 1) found.types) (rows_from (replicate (length (joint_values_of found.types)) false) found.deep) (map (row_with part_of) rows)) _ _ (λ all is.
    holds_rule (list_all (λ flag. flag) all.taken) (MissingRow at) (settled at all.found) _ (λ flags.
    holds_bind (join_found at all.found.ty) (λ t. Ok (kind t all.found.deep)) _ (λ t joins.
    let held = bind_ok (rule (nat_le 1 (length (map (texts.key_with part_of) keys))) (WrongType at))
    (λ _. in_turn (walks.key_walk names (depth + 1)) (record { types = []; deep = depth }) (map (texts.key_with part_of) keys)) found keyed in
    let some = found_join at all.found.ty t joins in
    let k = keys_fit names given bodies fit (depth + 1) (record { types = []; deep = depth }) found keys first held.2 in
    let c = subst (λ ts. Complete seen names.declared ts t rows) k.behind
    (complete names seen (depth + 1) found.deep found.types all t rows few second is flags some) in
    holds_kind t all.found.deep _
    (then_goes t (each_of (key_tree seen) [] (map (texts.key_with tree_in) keys)) (λ keyed. rows_tree seen keyed (map (row_with tree_in) rows)) k.trees (k.are [])
    (then_goes t (order_of names.declared (types_of k.trees) (map (row_with tree_in) rows))
    (λ order. option_and_then (λ bodies. built (nodes.Table k.trees bodies)) (each_of (row_there seen (map (row_with tree_in) rows)) [] order)) c.order c.are
    (then_goes t (each_of (row_there seen (map (row_with tree_in) rows)) [] c.order) (λ bodies. built (nodes.Table k.trees bodies)) c.trees (c.give [])
    (built_goes t (nodes.Table k.trees c.trees)
    (typed_table t k.trees c.trees
    (one_some (length k.trees) (ap (nat_le 1) (k.count ∙ sym (length-map keys (texts.key_with part_of)))
    ∙ rule_holds (nat_le 1 (length (map (texts.key_with part_of) keys))) (WrongType at) held.0 held.1))
    k.go (c.count ∙ c.full)
    (subst (λ ts. nat_le (length (joint_values_of ts)) 4096 ≡ true) k.behind (and_parts (list_all is_finite found.types) _ few).1)
    (ap (nat_lt 0) c.count ∙ rows_some names (depth + 1) found.deep found.types (replicate (length (joint_values_of found.types)) false) all t rows is some)
    c.go))))))))))
