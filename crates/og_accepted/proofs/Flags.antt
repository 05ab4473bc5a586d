-- Flags that tell of each rank whether it was taken.
use Rattle.std.proofs.Common.{◌≡◌, ◌⊎◌, inl, inr, ℕ, zero, suc, ◌<◌, ◌≤◌, Bool, true, false, List, [], ◌∷◌, length, refl, ap, sym, true≢false, arith}
use Rattle.std.specs.Prelude.{Option, Some, None, not, replicate, slice_get, slice_set, Ok}
use Rattle.std.specs.List.{list_all}
use Rattle.std.proofs.lemmas.Option.{same_Some, none-some}
use Rattle.og_typing.specs.declared.fault.WireFault.TheVariants.{RowTwice}
use Rattle.og_typing.specs.Checked.{rule}
use Rattle.og_typing.specs.Values.{is_taken, row_taken}
use Rattle.og_typing.proofs.Steps.{bind_ok, rule_holds}
use Rattle.og_inlining.proofs.Accepted.{one_answer}

-- ---- a rank is taken

not_taken : (o : Option Bool) → not (is_taken o) ≡ true → o ≡ Some false
not_taken None is = absurd (true≢false (sym is))
not_taken (Some true) is = absurd (true≢false (sym is))
not_taken (Some false) is = refl

pub record Taken (before after : List Bool) (rank : ℕ) : Type 0 where
  pub free : slice_get before rank ≡ Some false
  pub flags : slice_set before rank true ≡ after

pub taken : (at : ℕ) (before after : List Bool) (rank : ℕ) → row_taken at before rank ≡ Ok after → Taken before after rank
taken at before after rank is =
    let new = not (is_taken (slice_get before rank)) in
    let held = bind_ok (rule new (RowTwice at)) (λ _. Ok (slice_set before rank true)) after is in
    record {
      free = not_taken (slice_get before rank) (rule_holds new (RowTwice at) held.0 held.1);
      flags = one_answer (Ok (slice_set before rank true)) (slice_set before rank true) after refl held.2;
    }

-- ---- how many are true

abbrev pub trues : List Bool → ℕ
trues [] = 0
trues (true ∷ bs) = suc (trues bs)
trues (false ∷ bs) = trues bs

pub set_trues : (bs : List Bool) (k : ℕ) → slice_get bs k ≡ Some false → trues (slice_set bs k true) ≡ suc (trues bs)
set_trues [] k is = absurd (none-some false is)
set_trues (true ∷ bs) zero is = cc
set_trues (false ∷ bs) zero is = refl
set_trues (true ∷ bs) (suc k) is = ap suc (set_trues bs k is)
set_trues (false ∷ bs) (suc k) is = set_trues bs k is

pub set_length : (bs : List Bool) (k : ℕ) → length (slice_set bs k true) ≡ length bs
set_length [] k = refl
set_length (b ∷ bs) zero = refl
set_length (b ∷ bs) (suc k) = ap suc (set_length bs k)

pub none_true : (n : ℕ) → trues (replicate n false) ≡ 0
none_true zero = refl
none_true (suc n) = none_true n

pub count_of : (n : ℕ) → length (replicate n false) ≡ n
count_of zero = refl
count_of (suc n) = ap suc (count_of n)

pub few_trues : (bs : List Bool) → trues bs ≤ length bs
few_trues [] = omega arith
few_trues (true ∷ bs) = omega (arith, few_trues bs)
few_trues (false ∷ bs) = omega (arith, few_trues bs)

-- ---- which are true

next_place : (o : Type 0) (r k : ℕ) → o ⊎ (r ≡ k) → o ⊎ (suc r ≡ suc k)
next_place o r k (inl h) = inl h
next_place o r k (inr h) = inr (ap suc h)

-- A flag is true behind the one that is set only if it was before, or is that one.
pub set_there : (bs : List Bool) (r k : ℕ) → slice_get (slice_set bs r true) k ≡ Some true
    → (slice_get bs k ≡ Some true) ⊎ (r ≡ k)
set_there [] r k is = absurd (none-some true is)
set_there (b ∷ bs) zero zero is = inr refl
set_there (b ∷ bs) zero (suc k) is = inl is
set_there (b ∷ bs) (suc r) zero is = inl is
set_there (b ∷ bs) (suc r) (suc k) is = next_place (slice_get bs k ≡ Some true) r k (set_there bs r k is)

pub never_true : (n k : ℕ) → slice_get (replicate n false) k ≡ Some true → (P : Type 0) → P
never_true zero k is P = absurd (none-some true is)
never_true (suc n) zero is P = absurd (true≢false (sym (same_Some false true is)))
never_true (suc n) (suc k) is P = never_true n k is P

pub true_at : (bs : List Bool) → list_all (λ b. b) bs ≡ true → (k : ℕ) → k < length bs → slice_get bs k ≡ Some true
true_at [] all k below = absurd (omega (arith, below))
true_at (true ∷ bs) all zero below = refl
true_at (true ∷ bs) all (suc k) below = true_at bs all k (omega (arith, below))
true_at (false ∷ bs) all k below = absurd (true≢false (sym all))
