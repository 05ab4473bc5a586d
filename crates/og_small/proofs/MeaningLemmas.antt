-- Steps of a loop over the lines: what the choices, the deviations and the agents are after one more.
use Rattle.std.proofs.Common.{◌≡◌, ℕ, ◌+◌, ◌<◌, ◌≤◌, min, List, [], ◌∷◌, length, drop, get_or, Bool, true, false, cond, refl, sym, ap, ◌∙◌, arith, add-one, add-zero, append_assoc, drop-cons}
use Rattle.std.specs.List.{enumerate_from}
use Rattle.std.proofs.lemmas.List.{take_more, append-nil, length-take}
use Rattle.std.proofs.lemmas.List.Elements.{filter-append}
use Rattle.std.proofs.Math.ListN.{drop_of_length-le}
use Rattle.std.specs.Prelude.{bytes_eq, not, ◌++◌, ◌||◌, take, flat_map, filter, ◌⊎◌}
use Rattle.std.proofs.Common.{inl, inr}
use Rattle.std.proofs.lemmas.Bool.{cases_lt}
use Prim.Native.Nat.{suc}
use Rattle.og_small.specs.declared.tree.Line.{Line}
use Rattle.og_small.specs.Meaning.{choice_at, agents, has_agent}

-- what is left at a place is its element, and what is left after it
left_at : {X : Type 0} (xs : List X) (i : ℕ) (x : X) → i < length xs → x ≡ get_or xs i x → drop i xs ≡ x ∷ drop (i + 1) xs
left_at xs i x within is = rw (add-one, drop-cons xs i x) (ap (λ y. y ∷ drop (suc i) xs) (sym is))

left_any : {X : Type 0} (xs : List X) (i : ℕ) (d : X) → i < length xs → drop i xs ≡ get_or xs i d ∷ drop (i + 1) xs
left_any xs i d within = rw (add-one, drop-cons xs i d) refl

module _ (lines : List Line) (choices : List (List ℕ)) (output : List ℕ) where
  pub choice_at_later : (i : ℕ) (line : Line) → i < length lines → i < length choices
      → line ≡ get_or lines i line → false ≡ bytes_eq line.output output
      → choice_at (drop (i + 1) lines) (drop (i + 1) choices) output ≡ choice_at (drop i lines) (drop i choices) output
  choice_at_later i line in_lines in_choices is_line differs = sym (
      rw (left_at lines i line in_lines is_line, left_any choices i [] in_choices)
      (ap (λ b. cond b (get_or choices i []) (choice_at (drop (i + 1) lines) (drop (i + 1) choices) output)) (sym differs)))

no_choice : (lines : List Line) (output : List ℕ) → choice_at lines [] output ≡ []
no_choice [] output = refl
no_choice (line ∷ lines) output = refl

pub choice_at_end : (lines : List Line) (choices : List (List ℕ)) (output : List ℕ) (i : ℕ) → i ≡ min (length lines) (length choices)
    → choice_at (drop i lines) (drop i choices) output ≡ []
choice_at_end lines choices output i is = go (cases_lt i (length lines))
  where
    go : (i < length lines) ⊎ (length lines ≤ i) → choice_at (drop i lines) (drop i choices) output ≡ []
    go (inr past) = rw (drop_of_length-le lines {i = i} past) refl
    go (inl within) = let past : length choices ≤ i = omega (arith, is, within) in rw (drop_of_length-le choices {i = i} past) (no_choice (drop i lines) output)

-- one more numbered element of a list that is joined piece by piece
numbered_added : {X Y : Type 0} (f : ℕ × X → List Y) (xs : List X) (n : ℕ) (x : X)
    → flat_map f (enumerate_from n (xs ++ x ∷ [])) ≡ flat_map f (enumerate_from n xs) ++ f (n + length xs, x)
numbered_added f [] n x = append-nil _ ∙ ap (λ m. f (m, x)) (sym (add-zero n))
numbered_added f (first ∷ xs) n x =
    ap (λ ys. f (n, first) ++ ys) (numbered_added f xs (n + 1) x)
    ∙ sym (append_assoc (f (n, first)) (flat_map f (enumerate_from (n + 1) xs)) (f (n + 1 + length xs, x)))
    ∙ ap (λ m. (f (n, first) ++ flat_map f (enumerate_from (n + 1) xs)) ++ f (m, x)) (omega arith)

pub numbered_more : {X Y : Type 0} (f : ℕ × X → List Y) (xs : List X) (n i : ℕ) (x : X) → i < length xs → x ≡ get_or xs i x
    → flat_map f (enumerate_from n (take (i + 1) xs)) ≡ flat_map f (enumerate_from n (take i xs)) ++ f (i + n, x)
numbered_more f xs n i x within is =
    ap (λ ys. flat_map f (enumerate_from n ys)) (take_more xs i x within ∙ ap (λ y. take i xs ++ y ∷ []) (sym is))
    ∙ numbered_added f (take i xs) n x
    ∙ ap (λ m. flat_map f (enumerate_from n (take i xs)) ++ f (m, x)) (omega (arith, length-take i xs))

-- one more line's agent comes last, unless it was there before
any_true : (b : Bool) (agent : List ℕ) → [] ≡ cond (b || true) [] (agent ∷ [])
any_true true agent = refl
any_true false agent = refl

any_false : (b : Bool) (agent : List ℕ) → cond (not b) (agent ∷ []) [] ≡ cond (b || false) [] (agent ∷ [])
any_false true agent = refl
any_false false agent = refl

agents_added : (lines : List Line) (line : Line) → agents (lines ++ line ∷ []) ≡ agents lines ++ cond (has_agent lines line.agent) [] (line.agent ∷ [])
agents_added [] line = refl
agents_added (first ∷ lines) line =
    ap (λ rest. first.agent ∷ filter (λ agent. not (bytes_eq first.agent agent)) rest) (agents_added lines line)
    ∙ ap (λ rest. first.agent ∷ rest) (filter-append (λ agent. not (bytes_eq first.agent agent)) (agents lines) (cond (has_agent lines line.agent) [] (line.agent ∷ []))
    ∙ ap (λ rest. filter (λ agent. not (bytes_eq first.agent agent)) (agents lines) ++ rest) (last (has_agent lines line.agent)))
  where
    last : (known : Bool) → filter (λ agent. not (bytes_eq first.agent agent)) (cond known [] (line.agent ∷ [])) ≡ cond (bytes_eq first.agent line.agent || known) [] (line.agent ∷ [])
    last true = any_true (bytes_eq first.agent line.agent) line.agent
    last false = any_false (bytes_eq first.agent line.agent) line.agent

module _ (lines : List Line) (i : ℕ) (line : Line) (within : i < length lines) (is : line ≡ get_or lines i line) where
  agents_step : agents (take (i + 1) lines) ≡ agents (take i lines) ++ cond (has_agent (take i lines) line.agent) [] (line.agent ∷ [])
  agents_step = ap agents (take_more lines i line within ∙ ap (λ y. take i lines ++ y ∷ []) (sym is)) ∙ agents_added (take i lines) line

  pub agents_new : has_agent (take i lines) line.agent ≡ false → agents (take (i + 1) lines) ≡ agents (take i lines) ++ line.agent ∷ []
  agents_new new = agents_step ∙ ap (λ known. agents (take i lines) ++ cond known [] (line.agent ∷ [])) new

  pub agents_known : has_agent (take i lines) line.agent ≡ true → agents (take (i + 1) lines) ≡ agents (take i lines)
  agents_known known = agents_step ∙ ap (λ b. agents (take i lines) ++ cond b [] (line.agent ∷ [])) known ∙ append-nil (agents (take i lines))
