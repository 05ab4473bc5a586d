-- Runs of characters that pass a test.
use Rattle.std.proofs.Common.{◌≡◌, inl, inr, ℕ, ◌≤◌, Bool, true, List, [], ◌∷◌, ◌++◌, length, refl, sym, ap, ◌∙◌, subst, arith}
use Rattle.std.specs.List.{list_all}
use Rattle.std.proofs.lemmas.Bool.{cases_Bool, and_parts}
use Rattle.og_lex.specs.Characters.{run, behind}
use Rattle.og_lex.specs.Spelling.{Stops}
use Rattle.og_lex.proofs.TextCuts.{run-yes, run-no, behind-yes, behind-no}

-- a list is its longest front that passes, and the rest
pub run-behind : (p : ℕ → Bool) (cs : List ℕ) → cs ≡ run p cs ++ behind p cs
run-behind p [] = refl
run-behind p (c ∷ cs) =
    elim (cases_Bool (p c)) [
      | inl holds ↦
          let more = run-behind p cs in
          ap (λ l. c ∷ l) more ∙ sym (ap (λ l. l ++ behind p cs) (run-yes p c cs holds)) ∙ ap (λ l. run p (c ∷ cs) ++ l) (sym (behind-yes p c cs holds))
      | inr stops ↦
          sym (ap (λ l. l ++ behind p (c ∷ cs)) (run-no p c cs stops) ∙ behind-no p c cs stops)
    ]

pub behind-stops : (p : ℕ → Bool) (cs : List ℕ) → Stops p (behind p cs)
behind-stops p [] = tt
behind-stops p (c ∷ cs) =
    elim (cases_Bool (p c)) [
      | inl holds ↦ subst (Stops p) (sym (behind-yes p c cs holds)) (behind-stops p cs)
      | inr stops ↦ subst (Stops p) (sym (behind-no p c cs stops)) stops
    ]

-- a front that passes is no longer than the run
pub front_le_run : (p : ℕ → Bool) (front rest : List ℕ) → list_all p front ≡ true → length front ≤ length (run p (front ++ rest))
front_le_run p [] rest a = omega arith
front_le_run p (c ∷ front) rest a =
    let h = and_parts (p c) (list_all p front) a in
    let more = front_le_run p front rest h.1 in
    let l : length (run p (c ∷ (front ++ rest))) ≡ length (c ∷ run p (front ++ rest)) = ap length (run-yes p c (front ++ rest) h.0) in
    omega arith

stops_run : (p : ℕ → Bool) (rest : List ℕ) → Stops p rest → run p rest ≡ []
stops_run p [] s = refl
stops_run p (c ∷ cs) s = run-no p c cs s

stops_behind : (p : ℕ → Bool) (rest : List ℕ) → Stops p rest → behind p rest ≡ rest
stops_behind p [] s = refl
stops_behind p (c ∷ cs) s = behind-no p c cs s

-- a front that passes and is followed by no character that does is the run
pub run-exact : (p : ℕ → Bool) (front rest : List ℕ) → list_all p front ≡ true → Stops p rest → run p (front ++ rest) ≡ front
run-exact p [] rest a s = stops_run p rest s
run-exact p (c ∷ front) rest a s =
    let h = and_parts (p c) (list_all p front) a in
    run-yes p c (front ++ rest) h.0 ∙ ap (λ l. c ∷ l) (run-exact p front rest h.1 s)

pub behind-exact : (p : ℕ → Bool) (front rest : List ℕ) → list_all p front ≡ true → Stops p rest → behind p (front ++ rest) ≡ rest
behind-exact p [] rest a s = stops_behind p rest s
behind-exact p (c ∷ front) rest a s =
    let h = and_parts (p c) (list_all p front) a in
    behind-yes p c (front ++ rest) h.0 ∙ behind-exact p front rest h.1 s
