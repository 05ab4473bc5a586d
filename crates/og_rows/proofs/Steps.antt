-- Steps of loops over ranks.
use Rattle.std.proofs.Common.{◌≡◌, ◌≢◌, ◌∙◌, ℕ, zero, suc, ◌+◌, ◌-◌, ◌<◌, ◌≤◌, ◌^◌, min, cond, Bool, true, false, List, [], ◌∷◌, ◌++◌, map, length, take, get_or, set, refl, ap, sym, arith, take-suc, get_or-set_same, get_or-set_other, length-set, add-one}
use Rattle.std.specs.Prelude.{◌==◌, if◌then◌else◌, nat_lt, sum_by, replicate, Option, Some, None, option_and_then, slice_get}
use Rattle.std.specs.List.{filter, range_with_len}
use Rattle.std.proofs.lemmas.Bool.{eq-eqb, ne_eqb, eqb-true, eqb-false}
use Rattle.std.proofs.lemmas.List.FromFn.{fill_by_all, get_or-map-range_with_len, length-map-range_with_len}
use Rattle.std.proofs.lemmas.Option.{get_or_from_slice_get, none-some}
use Rattle.std.proofs.lemmas.List.Sums.{sum_by-append}
use Rattle.og_inlining.specs.Steps.{each_of}
use Rattle.og_rows.specs.declared.ranked.Item.{Item}
use Rattle.og_rows.specs.declared.ranked.Ranked.{Ranked}
use Rattle.og_rows.specs.Rows.{weight_at, weight_in, noted_at, noted, weighs, those_that_weigh, weighed, row_of, weighed_if}

-- ---- weights by rank

-- nothing weighs nothing
pub zeros_weigh : (count : ℕ) → replicate count 0 ≡ map (weight_in []) (range_with_len 0 count)
zeros_weigh count = fill count 0
  where
    fill : (n from : ℕ) → replicate n 0 ≡ map (weight_in []) (range_with_len from n)
    fill zero from = refl
    fill (suc n) from = ap (λ ns. 0 ∷ ns) (fill n (from + 1))

-- what the first items weigh, with one item more
more_weight : (items : List Item) (i : ℕ) (item : Item) (rank : ℕ) → i < length items → item ≡ get_or items i item
    → weight_in (take (i + 1) items) rank ≡ min (weight_in (take i items) rank + weight_at rank item) (2 ^ 62)
more_weight items i item rank within is =
    ap (λ n. weight_in (take n items) rank) (add-one i)
    ∙ ap (λ those. weight_in those rank) (take-suc items i item within ∙ ap (λ x. take i items ++ x ∷ []) (sym is))
    ∙ ap (λ n. min n (2 ^ 62)) (sum_by-append (weight_at rank) (take i items) (item ∷ []))
    ∙ together (sum_by (weight_at rank) (take i items)) (weight_at rank item)
  where
    together : (m n : ℕ) → min (m + (0 + n)) (2 ^ 62) ≡ min (min m (2 ^ 62) + n) (2 ^ 62)
    together m n = omega arith

slice_get_none : (ns : List ℕ) (k : ℕ) → slice_get ns k ≡ None → length ns ≤ k
slice_get_none [] k none = omega arith
slice_get_none (n ∷ ns) zero none = absurd (none-some n (sym none))
slice_get_none (n ∷ ns) (suc k) none = omega (arith, slice_get_none ns k none)

pub same_rank : (item : Item) (rank : ℕ) → rank ≡ item.rank → weight_at rank item ≡ item.weight
same_rank item rank is = ap (λ b. if b then item.weight else 0) (eq-eqb item.rank rank (sym is))

pub other_rank : (item : Item) (rank : ℕ) → rank ≢ item.rank → weight_at rank item ≡ 0
other_rank item rank is = ap (λ b. if b then item.weight else 0) (ne_eqb item.rank rank (λ same. is (sym same)))

module _ (items : List Item) (i : ℕ) (item : Item) (count : ℕ) (made : List ℕ) (within : i < length items)
    (is : item ≡ get_or items i item) (made_is : made ≡ map (weight_in (take i items)) (range_with_len 0 count)) where
  long : length made ≡ count
  long = ap length made_is ∙ length-map-range_with_len (weight_in (take i items)) 0 count

  made_at : (k : ℕ) → k < count → get_or made k 0 ≡ weight_in (take i items) k
  made_at k below =
      ap (λ ns. get_or ns k 0) made_is
      ∙ get_or-map-range_with_len (weight_in (take i items)) 0 count k k 0 below (omega arith)

  abbrev weight : ℕ
  weight = min (get_or made item.rank 0 + item.weight) (2 ^ 62)

  table_at : (k : ℕ) → k < count → (b : Bool) → (k == item.rank) ≡ b
      → get_or (set made item.rank weight) k 0 ≡ weight_in (take (i + 1) items) k
  table_at k below true same =
      let at = eqb-true k item.rank same in
      ap (λ k. get_or (set made item.rank weight) k 0) at
      ∙ get_or-set_same made item.rank weight 0 (omega (arith, long, below, at))
      ∙ ap (λ n. min (n + item.weight) (2 ^ 62)) (made_at item.rank (omega (arith, below, at)))
      ∙ ap (λ n. min (weight_in (take i items) item.rank + n) (2 ^ 62)) (sym (same_rank item item.rank refl))
      ∙ sym (more_weight items i item item.rank within is)
      ∙ ap (weight_in (take (i + 1) items)) (sym at)
  table_at k below false other =
      let at = eqb-false k item.rank other in
      get_or-set_other made item.rank k weight 0 at
      ∙ made_at k below
      ∙ kept (weight_in (take i items) k) (weight_at k item) (other_rank item k at) (small k)
      ∙ sym (more_weight items i item k within is)
    where
      small : (k : ℕ) → weight_in (take i items) k ≤ 2 ^ 62
      small k = omega arith

      kept : (m n : ℕ) → n ≡ 0 → m ≤ 2 ^ 62 → m ≡ min (m + n) (2 ^ 62)
      kept m n none below = omega (arith, none, below)

  table_next : set made item.rank weight ≡ map (weight_in (take (i + 1) items)) (range_with_len 0 count)
  table_next =
      fill_by_all (weight_in (take (i + 1) items)) (set made item.rank weight) count 0 (length-set made item.rank weight ∙ long)
      (λ k below. table_at k below (k == item.rank) refl)

  past_at : length made ≤ item.rank → (k : ℕ) → k < count → get_or made k 0 ≡ weight_in (take (i + 1) items) k
  past_at past k below =
      made_at k below
      ∙ kept (weight_in (take i items) k) (weight_at k item) (other_rank item k (λ same. omega (arith, same, long, past, below))) (small k)
      ∙ sym (more_weight items i item k within is)
    where
      small : (k : ℕ) → weight_in (take i items) k ≤ 2 ^ 62
      small k = omega arith

      kept : (m n : ℕ) → n ≡ 0 → m ≤ 2 ^ 62 → m ≡ min (m + n) (2 ^ 62)
      kept m n none below = omega (arith, none, below)

  table_past : length made ≤ item.rank → made ≡ map (weight_in (take (i + 1) items)) (range_with_len 0 count)
  table_past past = fill_by_all (weight_in (take (i + 1) items)) made count 0 long (past_at past)

  noted_by : (o : Option ℕ) → slice_get made item.rank ≡ o
      → noted_at made item o ≡ map (weight_in (take (i + 1) items)) (range_with_len 0 count)
  noted_by None there = table_past (slice_get_none made item.rank there)
  noted_by (Some before) there =
      ap (λ n. set made item.rank (min (n + item.weight) (2 ^ 62))) (sym (get_or_from_slice_get made item.rank before 0 there)) ∙ table_next

  pub noted_next : noted made item ≡ map (weight_in (take (i + 1) items)) (range_with_len 0 count)
  noted_next = noted_by (slice_get made item.rank) refl

-- ---- those that weigh something

abbrev entry_of : List Item → ℕ → ℕ × ℕ
entry_of items rank = (rank, weight_in items rank)

those : (items : List Item) (n from : ℕ)
    → those_that_weigh from (map (weight_in items) (range_with_len from n)) ≡ filter weighs (map (entry_of items) (range_with_len from n))
those items zero from = refl
those items (suc n) from = first (nat_lt 0 (weight_in items from)) (those items n (from + 1))
  where
    first : (b : Bool)
        → those_that_weigh (from + 1) (map (weight_in items) (range_with_len (from + 1) n)) ≡ filter weighs (map (entry_of items) (range_with_len (from + 1) n))
        → (if b then entry_of items from ∷ those_that_weigh (from + 1) (map (weight_in items) (range_with_len (from + 1) n))
        else those_that_weigh (from + 1) (map (weight_in items) (range_with_len (from + 1) n)))
        ≡ cond b (entry_of items from ∷ filter weighs (map (entry_of items) (range_with_len (from + 1) n)))
        (filter weighs (map (entry_of items) (range_with_len (from + 1) n)))
    first true is = ap (λ entries. entry_of items from ∷ entries) is
    first false is = is

pub those_weighed : (items : List Item) (count : ℕ) (weights : List ℕ) → weights ≡ map (weight_in items) (range_with_len 0 count)
    → those_that_weigh 0 weights ≡ weighed count items
those_weighed items count weights are = ap (those_that_weigh 0) are ∙ those items count 0

pub as_many : (items : List Item) (count : ℕ) (weights : List ℕ) → weights ≡ map (weight_in items) (range_with_len 0 count)
    → length weights ≡ count
as_many items count weights are = ap length are ∙ length-map-range_with_len (weight_in items) 0 count

pub ruleset all_weights = (those_weighed, as_many)

-- ---- numbers in turn

-- the numbers that are left
range_left : (k n : ℕ) → k < n → range_with_len k (n - k) ≡ k ∷ range_with_len (k + 1) (n - (k + 1))
range_left k n below = ap (range_with_len k) (left (n - k) (n - (k + 1)) (omega (arith, below)))
  where
    left : (m less : ℕ) → m ≡ less + 1 → m ≡ suc less
    left m less is = omega (arith, is)

seen_next : {Y : Type 0} (item : ℕ → Option Y) (k n : ℕ) (found : List Y) (y : Y) → k < n → item k ≡ Some y
    → each_of item found (range_with_len k (n - k)) ≡ each_of item (found ++ y ∷ []) (range_with_len (k + 1) (n - (k + 1)))
seen_next item k n found y below is =
    ap (each_of item found) (range_left k n below)
    ∙ ap (option_and_then (λ y. each_of item (found ++ y ∷ []) (range_with_len (k + 1) (n - (k + 1))))) is

pub row_next : (count : ℕ) (rows : List Ranked) (k n : ℕ) (found : List (List (ℕ × ℕ))) (row : Ranked) → k < n
    → row_of rows k ≡ Some row
    → each_of (λ seen. weighed_if count (row_of rows seen)) found (range_with_len k (n - k))
    ≡ each_of (λ seen. weighed_if count (row_of rows seen)) (found ++ weighed count row.items ∷ []) (range_with_len (k + 1) (n - (k + 1)))
row_next count rows k n found row below is =
    seen_next (λ seen. weighed_if count (row_of rows seen)) k n found (weighed count row.items) below (ap (weighed_if count) is)
