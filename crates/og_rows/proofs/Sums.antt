-- What tables by rank add up to.
use Rattle.std.proofs.Common.{◌≡◌, ◌∙◌, ℕ, zero, suc, ◌+◌, ◌<◌, ◌≤◌, ◌^◌, min, cond, Bool, true, false, List, [], ◌∷◌, map, length, refl, ap, sym, arith}
use Rattle.std.specs.Prelude.{◌==◌, ◌&&◌, nat_le, nat_lt, sum_by}
use Rattle.std.specs.List.{list_all, filter, range_with_len}
use Rattle.std.proofs.lemmas.Bool.{eq-eqb, eqb-true, eqb-false, lt-ltb, ltb-true, ltb-false, le-leb, and_parts, and_from}
use Rattle.std.proofs.lemmas.List.Sums.{sum_by-cons}
use Rattle.og_game.specs.Rows.{are_rising, total_weight, are_weights, is_row}
use Rattle.og_rows.specs.declared.ranked.Item.{Item}
use Rattle.og_rows.specs.Rows.{weight_at, weight_in, weighs, weighed, ranks_of}
use Rattle.og_rows.proofs.Steps.{same_rank, other_rank}

-- ---- ranks rise

module _ (f : ℕ → ℕ) where
  abbrev entries : ℕ → ℕ → List (ℕ × ℕ)
  entries from n = filter weighs (map (λ rank. (rank, f rank)) (range_with_len from n))

  rising : (n bound from count : ℕ) → bound ≤ from → from + n ≤ count → are_rising bound count (ranks_of (entries from n)) ≡ true
  rising zero bound from count low high = refl
  rising (suc n) bound from count low high =
      first (weighs (from, f from)) (rising n (from + 1) (from + 1) count (omega arith) (omega (arith, high)))
      (rising n bound (from + 1) count (omega (arith, low)) (omega (arith, high)))
    where
      first : (b : Bool) → are_rising (from + 1) count (ranks_of (entries (from + 1) n)) ≡ true
          → are_rising bound count (ranks_of (entries (from + 1) n)) ≡ true
          → are_rising bound count (ranks_of (cond b ((from, f from) ∷ entries (from + 1) n) (entries (from + 1) n))) ≡ true
      first true after over =
          and_from (nat_le bound from && nat_lt from count) (are_rising (from + 1) count (ranks_of (entries (from + 1) n)))
          (and_from (nat_le bound from) (nat_lt from count) (le-leb bound from low) (lt-ltb from count (omega (arith, high)))) after
      first false after over = over

  -- ---- each weighs something

  all_weigh : (n from : ℕ) → list_all weighs (entries from n) ≡ true
  all_weigh zero from = refl
  all_weigh (suc n) from = first (weighs (from, f from)) refl (all_weigh n (from + 1))
    where
      first : (b : Bool) → weighs (from, f from) ≡ b → list_all weighs (entries (from + 1) n) ≡ true
          → list_all weighs (cond b ((from, f from) ∷ entries (from + 1) n) (entries (from + 1) n)) ≡ true
      first true is after = and_from (weighs (from, f from)) (list_all weighs (entries (from + 1) n)) is after
      first false is after = after

-- ---- sums over ranks

spread : (ℕ → ℕ) → ℕ → ℕ → ℕ
spread f from zero = 0
spread f from (suc n) = f from + spread f (from + 1) n

total_spread : (f : ℕ → ℕ) (n from : ℕ) → total_weight (entries f from n) ≡ spread f from n
unfolding spread
total_spread f zero from = refl
total_spread f (suc n) from = first (weighs (from, f from)) refl (total_spread f n (from + 1))
  where
    first : (b : Bool) → nat_lt 0 (f from) ≡ b → total_weight (entries f (from + 1) n) ≡ spread f (from + 1) n
        → total_weight (cond b ((from, f from) ∷ entries f (from + 1) n) (entries f (from + 1) n)) ≡ f from + spread f (from + 1) n
    first true is after = ap (λ m. f from + m) after
    first false is after = omega (arith, ltb-false 0 (f from) is, after)

spread_same : (f g : ℕ → ℕ) → ((rank : ℕ) → f rank ≡ g rank) → (n from : ℕ) → spread f from n ≡ spread g from n
unfolding spread
spread_same f g same zero from = refl
spread_same f g same (suc n) from = omega (arith, same from, spread_same f g same n (from + 1))

spread_both : (f g : ℕ → ℕ) (n from : ℕ) → spread (λ rank. f rank + g rank) from n ≡ spread f from n + spread g from n
unfolding spread
spread_both f g zero from = refl
spread_both f g (suc n) from = omega (arith, spread_both f g n (from + 1))

spread_none : (n from : ℕ) → spread (λ rank. 0) from n ≡ 0
unfolding spread
spread_none zero from = refl
spread_none (suc n) from = omega (arith, spread_none n (from + 1))

-- an item of a lower rank
spread_past : (item : Item) (n from : ℕ) → item.rank < from → spread (λ rank. weight_at rank item) from n ≡ 0
unfolding spread
spread_past item zero from past = refl
spread_past item (suc n) from past =
    omega (arith, other_rank item from (λ same. omega (arith, same, past)), spread_past item n (from + 1) (omega (arith, past)))

spread_item : (item : Item) (n from : ℕ) → from ≤ item.rank → item.rank < from + n
    → spread (λ rank. weight_at rank item) from n ≡ item.weight
unfolding spread
spread_item item zero from low high = absurd (omega (arith, low, high))
spread_item item (suc n) from low high = first (from == item.rank) refl (spread_item item n (from + 1))
  where
    first : (b : Bool) → (from == item.rank) ≡ b
        → (from + 1 ≤ item.rank → item.rank < (from + 1) + n → spread (λ rank. weight_at rank item) (from + 1) n ≡ item.weight)
        → weight_at from item + spread (λ rank. weight_at rank item) (from + 1) n ≡ item.weight
    first true is further =
        omega (
          arith,
          same_rank item from (eqb-true from item.rank is),
          spread_past item n (from + 1) (omega (arith, eqb-true from item.rank is)),
        )
    first false is further =
        omega (
          arith,
          other_rank item from (eqb-false from item.rank is),
          further (omega (arith, low, eqb-false from item.rank is)) (omega (arith, high)),
        )

abbrev together : List Item → ℕ
together = sum_by (λ item. item.weight)

-- the weights of all ranks are those of the items
spread_all : (count : ℕ) (items : List Item) → list_all (λ item. nat_lt item.rank count) items ≡ true
    → spread (λ rank. sum_by (weight_at rank) items) 0 count ≡ together items
spread_all count [] all = spread_none count 0
spread_all count (item ∷ items) all =
    let both = and_parts (nat_lt item.rank count) (list_all (λ item. nat_lt item.rank count) items) all in
    spread_same (λ rank. sum_by (weight_at rank) (item ∷ items)) (λ rank. weight_at rank item + sum_by (weight_at rank) items)
    (λ rank. sum_by-cons (weight_at rank) item items) count 0
    ∙ spread_both (λ rank. weight_at rank item) (λ rank. sum_by (weight_at rank) items) count 0
    ∙ parts (spread (λ rank. weight_at rank item) 0 count) (spread (λ rank. sum_by (weight_at rank) items) 0 count) item.weight (together items)
    (spread_item item count 0 (omega arith) (omega (arith, ltb-true item.rank count both.0))) (spread_all count items both.1)
    ∙ sym (sum_by-cons (λ item. item.weight) item items)
  where
    parts : (m n a b : ℕ) → m ≡ a → n ≡ b → m + n ≡ a + b
    parts m n a b first second = omega (arith, first, second)

at_most : (rank : ℕ) (item : Item) → weight_at rank item ≤ item.weight
at_most rank item = first (rank == item.rank) refl
  where
    first : (b : Bool) → (rank == item.rank) ≡ b → weight_at rank item ≤ item.weight
    first true is = omega (arith, same_rank item rank (eqb-true rank item.rank is))
    first false is = omega (arith, other_rank item rank (eqb-false rank item.rank is))

no_more : (rank : ℕ) (items : List Item) → sum_by (weight_at rank) items ≤ together items
no_more rank [] = omega arith
no_more rank (item ∷ items) =
    omega (arith, at_most rank item, no_more rank items, sum_by-cons (weight_at rank) item items, sum_by-cons (λ item. item.weight) item items)

-- Where the weights are no more than 2^62, none stands still.
weighed_total : (count : ℕ) (items : List Item) → list_all (λ item. nat_lt item.rank count) items ≡ true
    → together items ≤ 2 ^ 62 → total_weight (weighed count items) ≡ together items
weighed_total count items all small =
    total_spread (weight_in items) count 0
    ∙ spread_same (weight_in items) (λ rank. sum_by (weight_at rank) items) (λ rank. still (sum_by (weight_at rank) items) (no_more rank items)) count 0
    ∙ spread_all count items all
  where
    still : (n : ℕ) → n ≤ together items → min n (2 ^ 62) ≡ n
    still n below = omega (arith, below, small)

-- ---- the laws

pub ranks_rise : (count : ℕ) (items : List Item) → are_rising 0 count (ranks_of (weighed count items)) ≡ true
ranks_rise count items = rising (weight_in items) count 0 0 count (omega arith) (omega arith)

pub weights_row : (count scale : ℕ) (items : List Item) → list_all (λ item. nat_lt item.rank count) items ≡ true
    → sum_by (λ item. item.weight) items ≡ scale → scale ≤ 2 ^ 62 → is_row count scale (weighed count items) ≡ true
weights_row count scale items all is small =
    and_from (are_rising 0 count (ranks_of (weighed count items))) (are_weights scale (weighed count items)) (ranks_rise count items)
    (and_from (list_all weighs (weighed count items)) (total_weight (weighed count items) == scale) (all_weigh (weight_in items) count 0)
    (eq-eqb (total_weight (weighed count items)) scale (weighed_total count items all (omega (arith, is, small)) ∙ is)))

pub weighed_some : (count : ℕ) (items : List Item) → list_all (λ item. nat_lt item.rank count) items ≡ true
    → sum_by (λ item. item.weight) items ≤ 2 ^ 62 → 0 < sum_by (λ item. item.weight) items → 0 < length (weighed count items)
weighed_some count items all small some = by (weighed count items) (weighed_total count items all small)
  where
    by : (entries : List (ℕ × ℕ)) → total_weight entries ≡ together items → 0 < length entries
    by [] is = absurd (omega (arith, is, some))
    by (entry ∷ entries) is = omega arith
