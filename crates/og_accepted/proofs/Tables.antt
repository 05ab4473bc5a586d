-- Rows that take each rank once have a table by rank.
use Rattle.std.proofs.Common.{◌≡◌, ◌∙◌, ◌⊎◌, inl, inr, ℕ, zero, suc, ◌+◌, ◌<◌, ◌≤◌, Bool, true, false, List, [], ◌∷◌, length, refl, ap, sym, subst, arith}
use Rattle.std.specs.Prelude.{Option, Some, if◌then◌else◌, ◌==◌, replicate, slice_get, slice_set, Ok}
use Rattle.std.specs.List.{list_all, range_with_len, AllByRecursion}
use Rattle.std.proofs.lemmas.Bool.{and_from, eq-eqb}
use Rattle.std.proofs.lemmas.Option.{same_Some, none-some}
use Rattle.og_typing.specs.Checked.{Checked, in_turn}
use Rattle.og_typing.proofs.Steps.{bind_ok}
use Rattle.og_inlining.proofs.Accepted.{one_answer, Each, each_nil, each_cons}
use Rattle.og_rows.specs.declared.ranked.Ranked.{Ranked}
use Rattle.og_rows.specs.Rows.{weighed, row_of, weighed_if, by_rank}
use Rattle.og_accepted.proofs.Flags.{set_length, set_there, never_true, true_at, count_of}

-- ---- flags behind rows

abbrev pub marked : List Bool → List Ranked → List Bool
marked flags [] = flags
marked flags (row ∷ rows) = marked (slice_set flags row.seen true) rows

marked_length : (flags : List Bool) (rows : List Ranked) → length (marked flags rows) ≡ length flags
marked_length flags [] = refl
marked_length flags (row ∷ rows) = marked_length (slice_set flags row.seen true) rows ∙ set_length flags row.seen

abbrev There : Option Ranked → Type 0
There o = (row : Ranked) × (o ≡ Some row)

there_else : (row : Ranked) (o : Option Ranked) (b : Bool) → There o → There (if b then Some row else o)
there_else row o true there = (row, refl)
there_else row o false there = there

there_first : (row : Ranked) (rows : List Ranked) (flags : List Bool) (k : ℕ)
    → (slice_get (slice_set flags row.seen true) k ≡ Some true) ⊎ There (row_of rows k)
    → (slice_get flags k ≡ Some true) ⊎ There (row_of (row ∷ rows) k)
there_first row rows flags k (inr there) = inr (there_else row (row_of rows k) (row.seen == k) there)
there_first row rows flags k (inl is) = by (set_there flags row.seen k is)
  where
    by : (slice_get flags k ≡ Some true) ⊎ (row.seen ≡ k) → (slice_get flags k ≡ Some true) ⊎ There (row_of (row ∷ rows) k)
    by (inl before) = inl before
    by (inr same) = inr (row, ap (λ b. if b then Some row else row_of rows k) (eq-eqb row.seen k same))

marked_there : (rows : List Ranked) (flags : List Bool) (k : ℕ) → slice_get (marked flags rows) k ≡ Some true
    → (slice_get flags k ≡ Some true) ⊎ There (row_of rows k)
marked_there [] flags k is = inl is
marked_there (row ∷ rows) flags k is = there_first row rows flags k (marked_there rows (slice_set flags row.seen true) k is)

-- Where all flags are true behind rows, and none was before, there is a row for each.
pub all_there : (count : ℕ) (rows : List Ranked) (after : List Bool) → marked (replicate count false) rows ≡ after
    → list_all (λ flag. flag) after ≡ true → (k : ℕ) → k < count → There (row_of rows k)
all_there count rows after flags all k below =
    by (marked_there rows (replicate count false) k
    (ap (λ those. slice_get those k) flags
    ∙ true_at after all k (within (length after)
    (sym (ap length flags) ∙ marked_length (replicate count false) rows ∙ count_of count))))
  where
    within : (long : ℕ) → long ≡ count → k < long
    within long is = omega (arith, is, below)

    by : (slice_get (replicate count false) k ≡ Some true) ⊎ There (row_of rows k) → There (row_of rows k)
    by (inl is) = never_true count k is (There (row_of rows k))
    by (inr there) = there

-- ---- what a walk over rows makes

pub record Made (R : Type 0) (make : R → Option Ranked) (P : Ranked → Type 0) (before after : List Bool) (row : R) : Type 0 where
  pub it : Ranked
  pub is : make row ≡ Some it
  pub flags : slice_set before it.seen true ≡ after
  pub passes : P it

pub record AllMade (R : Type 0) (make : R → Option Ranked) (P : Ranked → Type 0) (before after : List Bool) (rows : List R)
    : Type 0 where
  pub those : List Ranked
  pub are : Each make rows those
  pub flags : marked before those ≡ after
  pub pass : AllByRecursion P those

pub all_made : (A R : Type 0) (flags : A → List Bool) (step : A → R → Checked A) (make : R → Option Ranked)
    (P : Ranked → Type 0) (rows : List R)
    → AllByRecursion (λ row. (before after : A) → step before row ≡ Ok after → Made R make P (flags before) (flags after) row) rows
    → (before after : A) → in_turn step before rows ≡ Ok after → AllMade R make P (flags before) (flags after) rows
all_made A R flags step make P [] each before after is =
    record {
      those = [];
      are = each_nil make;
      flags = ap flags (one_answer (Ok before) before after refl is);
      pass = tt;
    }
all_made A R flags step make P (row ∷ rows) each before after is =
    let walked = bind_ok (step before row) (λ next. in_turn step next rows) after is in
    let first = each.0 before walked.0 walked.1 in
    let rest = all_made A R flags step make P rows each.1 walked.0 after walked.2 in
    record {
      those = first.it ∷ rest.those;
      are = each_cons make row rows first.it rest.those first.is rest.are;
      flags = ap (λ set. marked set rest.those) first.flags ∙ rest.flags;
      pass = (first.passes, rest.pass);
    }

-- ---- tables

row_passes : (P : Ranked → Type 0) (rows : List Ranked) → AllByRecursion P rows → (k : ℕ) (row : Ranked)
    → row_of rows k ≡ Some row → P row
row_passes P [] all k row is = absurd (none-some row is)
row_passes P (first ∷ rows) all k row is = by (first.seen == k) is (row_passes P rows all.1 k row)
  where
    by : (b : Bool) → (if b then Some first else row_of rows k) ≡ Some row → (row_of rows k ≡ Some row → P row) → P row
    by true is further = subst P (same_Some first row is) all.0
    by false is further = further is

record From (test : List (ℕ × ℕ) → Bool) (count : ℕ) (rows : List Ranked) (n from : ℕ) : Type 0 where
  table : List (List (ℕ × ℕ))
  are : Each (λ seen. weighed_if count (row_of rows seen)) (range_with_len from n) table
  long : length table ≡ n
  pass : list_all test table ≡ true

table_from : (test : List (ℕ × ℕ) → Bool) (count : ℕ) (rows : List Ranked)
    → AllByRecursion (λ row. test (weighed count row.items) ≡ true) rows
    → (n from : ℕ) → ((k : ℕ) → from ≤ k → k < from + n → There (row_of rows k)) → From test count rows n from
table_from test count rows all zero from there =
    record { table = []; are = each_nil (λ seen. weighed_if count (row_of rows seen)); long = refl; pass = refl }
table_from test count rows all (suc n) from there =
    let first = there from (omega arith) (omega arith) in
    let rest = table_from test count rows all n (from + 1)
    (λ k low high. there k (omega (arith, low)) (omega (arith, high))) in
    record {
      table = weighed count first.0.items ∷ rest.table;
      are = each_cons (λ seen. weighed_if count (row_of rows seen)) from (range_with_len (from + 1) n)
          (weighed count first.0.items) rest.table (ap (weighed_if count) first.1) rest.are;
      long = ap suc rest.long;
      pass = and_from (test (weighed count first.0.items)) (list_all test rest.table)
          (row_passes (λ row. test (weighed count row.items) ≡ true) rows all from first.0 first.1) rest.pass;
    }

pub record Tabled (test : List (ℕ × ℕ) → Bool) (observed count : ℕ) (rows : List Ranked) : Type 0 where
  pub table : List (List (ℕ × ℕ))
  pub is : by_rank observed count rows ≡ Some table
  pub long : length table ≡ observed
  pub pass : list_all test table ≡ true

pub tabled : (test : List (ℕ × ℕ) → Bool) (observed count : ℕ) (rows : List Ranked)
    → AllByRecursion (λ row. test (weighed count row.items) ≡ true) rows
    → ((k : ℕ) → k < observed → There (row_of rows k)) → Tabled test observed count rows
tabled test observed count rows all there =
    let made = table_from test count rows all observed 0 (λ k low high. there k (omega (arith, high))) in
    record { table = made.table; is = made.are []; long = made.long; pass = made.pass }
