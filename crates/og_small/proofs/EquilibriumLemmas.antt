-- That there is no deviation says that no agent gains.
use Rattle.std.proofs.Common.{◌≡◌, ℕ, ◌+◌, ◌-◌, ◌≤◌, List, [], ◌∷◌, ◌++◌, Bool, true, false, cond, refl, sym, ap, ◌∙◌, arith}
use Rattle.std.specs.Prelude.{flat_map, nat_lt, slice_get, slice_set, Option, Some, None}
use Rattle.std.specs.List.{enumerate_from}
use Rattle.std.specs.Option.{option_map_or}
use Rattle.std.proofs.lemmas.Option.{none-some}
use Rattle.std.proofs.lemmas.Bool.{ltb-false, le-ltb}
use Prim.Native.Nat.{zero, suc}
use Rattle.og_small.specs.declared.tree.SmallGame.{SmallGame}
use Rattle.og_small.specs.declared.tree.Line.{Line}
use Rattle.og_small.specs.Rules.{cases_of}
use Rattle.og_small.specs.Meaning.{total, deviation, deviations_at, deviations}
use Rattle.og_small.specs.Equilibrium.{IsEquilibrium}

front_none : {Y : Type 0} (xs ys : List Y) → xs ++ ys ≡ [] → xs ≡ []
front_none [] ys none = refl
front_none (x ∷ xs) ys none = cc

back_none : {Y : Type 0} (xs ys : List Y) → xs ++ ys ≡ [] → ys ≡ []
back_none [] ys none = none
back_none (x ∷ xs) ys none = cc

module _ {X Y : Type 0} (f : X → List Y) where
  each_none : (xs : List X) (k : ℕ) (x : X) → flat_map f xs ≡ [] → slice_get xs k ≡ Some x → f x ≡ []
  each_none [] k x none is = absurd (none-some x is)
  each_none (y ∷ ys) zero x none is = let same : x ≡ y = cc in ap f same ∙ front_none (f y) (flat_map f ys) none
  each_none (y ∷ ys) (suc k) x none is = each_none ys k x (back_none (f y) (flat_map f ys) none) is

  all_none : (xs : List X) → ((k : ℕ) (x : X) → slice_get xs k ≡ Some x → f x ≡ []) → flat_map f xs ≡ []
  all_none [] each = refl
  all_none (x ∷ xs) each = ap (λ ys. ys ++ flat_map f xs) (each zero x refl) ∙ all_none xs (λ k. each (suc k))

module _ {X Y : Type 0} (f : ℕ × X → List Y) where
  each_numbered : (xs : List X) (n k : ℕ) (x : X) → flat_map f (enumerate_from n xs) ≡ [] → slice_get xs k ≡ Some x → f (k + n, x) ≡ []
  each_numbered [] n k x none is = absurd (none-some x is)
  each_numbered (y ∷ ys) n zero x none is =
      let same : x ≡ y = cc in
      ap (λ m. f (m, x)) (omega arith) ∙ ap (λ z. f (n, z)) same ∙ front_none (f (n, y)) (flat_map f (enumerate_from (n + 1) ys)) none
  each_numbered (y ∷ ys) n (suc k) x none is =
      ap (λ m. f (m, x)) (omega arith) ∙ each_numbered ys (n + 1) k x (back_none (f (n, y)) (flat_map f (enumerate_from (n + 1) ys)) none) is

  all_numbered : (xs : List X) (n : ℕ) → ((k : ℕ) (x : X) → slice_get xs k ≡ Some x → f (k + n, x) ≡ []) → flat_map f (enumerate_from n xs) ≡ []
  all_numbered [] n each = refl
  all_numbered (x ∷ xs) n each =
      ap (λ ys. ys ++ flat_map f (enumerate_from (n + 1) xs)) (ap (λ m. f (m, x)) (omega arith) ∙ each zero x refl)
      ∙ all_numbered xs (n + 1) (λ k y is. ap (λ m. f (m, y)) (omega arith) ∙ each (suc k) y is)

gains_none : {Y : Type 0} (y : Y) (before after : ℕ) → cond (nat_lt before after) (y ∷ []) [] ≡ [] → after ≤ before
gains_none y before after none = go (nat_lt before after) refl none
  where
    go : (b : Bool) → nat_lt before after ≡ b → cond b (y ∷ []) [] ≡ [] → after ≤ before
    go true is none = cc
    go false is none = ltb-false before after is

none_gains : {Y : Type 0} (y : Y) (before after : ℕ) → after ≤ before → cond (nat_lt before after) (y ∷ []) [] ≡ []
none_gains y before after le = ap (λ gains. cond gains (y ∷ []) []) (le-ltb before after le)

module _ (g : SmallGame) (choices : List (List ℕ)) where
  at_place : (at : ℕ) (line : Line) (action : List ℕ) → total g.lines (slice_set choices (at + 1 - 1) action) line.agent ≡ total g.lines (slice_set choices at action) line.agent
  at_place at line action = let same : at + 1 - 1 ≡ at = omega arith in ap (λ i. total g.lines (slice_set choices i action) line.agent) same

  pub is_equilibrium : deviations g choices ≡ [] → IsEquilibrium g choices
  is_equilibrium none = record {
    none_gains = λ at line cases k action is_line is_cases is_action.
        let by : List ℕ → _ = deviation g.lines choices (at + 1) line in
        let at_line : deviations_at g choices (at + 1, line) ≡ [] = each_numbered (deviations_at g choices) g.lines 1 at line none is_line in
        let here : flat_map by cases ≡ [] = ap (λ found. flat_map by (option_map_or (λ cases. cases) found [])) (sym is_cases) ∙ at_line in
        let le = gains_none _ (total g.lines choices line.agent) (total g.lines (slice_set choices (at + 1 - 1) action) line.agent) (each_none by cases k action here is_action) in
        omega (arith, at_place at line action, le);
  }

  pub no_deviation : IsEquilibrium g choices → deviations g choices ≡ []
  no_deviation equilibrium = all_numbered (deviations_at g choices) g.lines 1 (λ at line is_line. at_line at line is_line)
    where
      none_by : (at : ℕ) (line : Line) → slice_get g.lines at ≡ Some line → (found : Option (List (List ℕ))) → cases_of g.types line.action ≡ found
          → flat_map (deviation g.lines choices (at + 1) line) (option_map_or (λ cases. cases) found []) ≡ []
      none_by at line is_line None is_cases = refl
      none_by at line is_line (Some cases) is_cases = all_none (deviation g.lines choices (at + 1) line) cases (λ k action is_action.
          let le = equilibrium.none_gains at line cases k action is_line is_cases is_action in
          none_gains _ (total g.lines choices line.agent) (total g.lines (slice_set choices (at + 1 - 1) action) line.agent) (omega (arith, at_place at line action, le)))

      at_line : (at : ℕ) (line : Line) → slice_get g.lines at ≡ Some line → deviations_at g choices (at + 1, line) ≡ []
      at_line at line is_line = none_by at line is_line (cases_of g.types line.action) refl
