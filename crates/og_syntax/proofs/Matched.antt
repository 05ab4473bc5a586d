-- Where no front of the tokens closes more brackets than it opens, the brackets that are open are counted.
use Rattle.std.proofs.Common.{◌≡◌, ℕ, zero, suc, ◌+◌, ◌-◌, ◌<◌, ◌≤◌, cond, ◌⊎◌, inl, inr, List, [], ◌∷◌, length, reverse, refl, ap, sym, ◌∙◌, subst, add-one, arith}
use Rattle.std.specs.Prelude.{slice_get, Some}
use Rattle.std.proofs.lemmas.List.{take_all}
use Rattle.std.proofs.lemmas.List.Sums.{sum_by-cons}
use Rattle.og_lex.specs.declared.token.Token.{Token}
use Rattle.og_syntax.specs.declared.depth.Role.{Role}
use Rattle.og_syntax.specs.declared.depth.Role.TheVariants as roles
use Rattle.og_syntax.specs.Deep.{role_of, open_step, open_in, before, is_opening, is_closing, opened, closed}
use Rattle.og_syntax.proofs.Walks.{one_more}

-- one token more, the walk being inside so many brackets, where `f` tells what is open before it
counted_step : (r : Role) (f : ℕ → ℕ) (o c : ℕ) → ((d : ℕ) → f d ≡ (o - c) - d) → c ≤ o
    → (d : ℕ) → open_step r d f ≡ ((cond (is_opening r) 1 0 + o) - (cond (is_closing r) 1 0 + c)) - d
counted_step roles.Opens f o c h le zero = omega (arith, h 0)
counted_step roles.Opens f o c h le (suc d) = omega (arith, h d)
counted_step roles.Closes f o c h le d = omega (arith, h (suc d))
counted_step roles.Composes f o c h le d = omega (arith, h d)
counted_step roles.Ends f o c h le d = omega (arith, h d)
counted_step roles.Other f o c h le d = omega (arith, h d)

-- no tail of the list closes more than it opens
abbrev Sound : List Token → Type 0
Sound [] = Unit {0}
Sound (t ∷ ts) = (closed (t ∷ ts) ≤ opened (t ∷ ts)) × Sound ts

sound_here : (ts : List Token) → Sound ts → closed ts ≤ opened ts
sound_here [] sound = omega arith
sound_here (t ∷ ts) sound = sound.0

counted : (ts : List Token) → Sound ts → (d : ℕ) → open_in ts d ≡ (opened ts - closed ts) - d
counted [] sound d = omega arith
counted (t ∷ ts) sound d =
    let o : opened (t ∷ ts) ≡ cond (is_opening (role_of t.kind)) 1 0 + opened ts = sum_by-cons _ t ts in
    let c : closed (t ∷ ts) ≡ cond (is_closing (role_of t.kind)) 1 0 + closed ts = sum_by-cons _ t ts in
    counted_step (role_of t.kind) (open_in ts) (opened ts) (closed ts) (counted ts sound.1) (sound_here ts sound.1) d
    ∙ (λ i. (sym o i - sym c i) - d)

-- there is a k-th token, or the list is over
there_or_over : (tokens : List Token) (k : ℕ)
    → ((t : Token) × ((slice_get tokens k ≡ Some t) × (k < length tokens))) ⊎ (length tokens ≤ k)
there_or_over [] k = inr (omega arith)
there_or_over (t ∷ ts) zero = inl (t, (refl, omega arith))
there_or_over (t ∷ ts) (suc k) =
    elim (there_or_over ts k) [ inl w ↦ inl (w.0, (w.1.0, omega (arith, w.1.1))) | inr over ↦ inr (omega arith) ]

sound_before : (tokens : List Token) → ((j : ℕ) → closed (before tokens j) ≤ opened (before tokens j))
    → (k : ℕ) → Sound (before tokens k)
sound_before tokens h zero = tt
sound_before tokens h (suc k) =
    elim (there_or_over tokens k) [
      | inl w ↦
          let e : before tokens (suc k) ≡ w.0 ∷ before tokens k =
          ap (before tokens) (sym (add-one k)) ∙ one_more tokens k w.0 w.1.1 w.1.0 in
          subst Sound (sym e) (subst (λ ts. closed ts ≤ opened ts) e (h (suc k)), sound_before tokens h k)
      | inr over ↦
          let e : before tokens (suc k) ≡ before tokens k =
          ap reverse (take_all (suc k) tokens (omega arith) ∙ sym (take_all k tokens over)) in
          subst Sound (sym e) (sound_before tokens h k)
    ]

pub open_is_counted : (tokens : List Token) → ((j : ℕ) → closed (before tokens j) ≤ opened (before tokens j))
    → (k : ℕ) → open_in (before tokens k) 0 ≡ opened (before tokens k) - closed (before tokens k)
open_is_counted tokens h k = omega (arith, counted (before tokens k) (sound_before tokens h k) 0)
