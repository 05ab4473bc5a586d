-- The counts that `first_deep` keeps are what the walks back tell.
use Rattle.std.proofs.Common.{◌≡◌, ℕ, zero, suc, ◌+◌, ◌-◌, ◌<◌, ◌≤◌, ◌==◌, if◌then◌else◌, List, [], ◌∷◌, ◌++◌, length, get_or, take, reverse, refl, ap, sym, ◌∙◌, subst, arith, below_more}
use Rattle.std.specs.Prelude.{slice_index, slice_set, slice_get, Some, IsSomeAnd}
use Rattle.std.proofs.lemmas.List.{get_or-set_same, get_or-set_other, reverse-append, take_more}
use Rattle.std.proofs.lemmas.Option.{get_or_from_slice_get}
use Rattle.std.proofs.lemmas.Grind.{common_steps}
use Rattle.og_lex.specs.declared.token.Token.{Token}
use Rattle.og_syntax.specs.declared.depth.Role.{Role}
use Rattle.og_syntax.specs.declared.depth.Role.TheVariants as roles
use Rattle.og_syntax.specs.Deep.{role_of, open_step, open_in, operator_step, operators_in, IsDeepBehind, before, IsDeep}
use Rattle.og_syntax.specs.Counts.{Passes}

-- the brackets that are open, and the counts that are kept for them, the outermost first, against what the walks tell
-- from inside so many brackets: from inside more than are open they tell nothing
pub record Kept (opened operators : ℕ → ℕ) (depth : ℕ) (counts : List ℕ) : Type 0 where
  pub brackets : (inside : ℕ) → opened inside ≡ depth - inside
  pub held : (inside : ℕ) → inside ≤ depth → get_or counts (depth - inside) 0 ≡ operators inside
  pub beyond : (inside : ℕ) → depth < inside → operators inside ≡ 0

-- ---- an opening token

opened : (f : ℕ → ℕ) (depth : ℕ) → ((d : ℕ) → f d ≡ depth - d) → (d : ℕ) → open_step roles.Opens d f ≡ (depth + 1) - d
opened f depth h zero = omega (arith, h 0)
opened f depth h (suc d) = omega (arith, h d)

opened_held : (g : ℕ → ℕ) (depth : ℕ) (counts : List ℕ) → depth + 1 < length counts
    → ((d : ℕ) → d ≤ depth → get_or counts (depth - d) 0 ≡ g d)
    → (d : ℕ) → d ≤ depth + 1 → get_or (slice_set counts (depth + 1) 0) ((depth + 1) - d) 0 ≡ operator_step roles.Opens d g
opened_held g depth counts room h zero le = grind (arith, common_steps)
opened_held g depth counts room h (suc d) le =
    let e : (depth + 1) - suc d ≡ depth - d = omega arith in
    let ne : depth - d ≡ depth + 1 → ⊥ = omega arith in
    let le' : d ≤ depth = omega arith in
    rw (e, get_or-set_other) (h d le')

opened_beyond : (g : ℕ → ℕ) (depth : ℕ) → ((d : ℕ) → depth < d → g d ≡ 0)
    → (d : ℕ) → depth + 1 < d → operator_step roles.Opens d g ≡ 0
opened_beyond g depth h zero lt = absurd (omega arith)
opened_beyond g depth h (suc d) lt = h d (omega arith)

-- ---- a closing token

closed : (f : ℕ → ℕ) (depth : ℕ) → ((d : ℕ) → f d ≡ depth - d) → (d : ℕ) → open_step roles.Closes d f ≡ (depth - 1) - d
closed f depth h d = omega (arith, h (suc d))

closed_held : (g : ℕ → ℕ) (depth : ℕ) (counts : List ℕ) → 0 < length counts
    → ((d : ℕ) → d ≤ depth → get_or counts (depth - d) 0 ≡ g d) → ((d : ℕ) → depth < d → g d ≡ 0)
    → (d : ℕ) → d ≤ depth - 1
    → get_or (if depth == 0 then slice_set counts 0 0 else counts) ((depth - 1) - d) 0 ≡ operator_step roles.Closes d g
closed_held g zero counts room h k zero le = grind (arith, common_steps)
closed_held g zero counts room h k (suc d) le = absurd (omega arith)
closed_held g (suc depth) counts room h k d le =
    let e : (suc depth - 1) - d ≡ suc depth - suc d = omega arith in
    let le' : suc d ≤ suc depth = omega arith in
    let same : (if suc depth == 0 then slice_set counts 0 0 else counts) ≡ counts = grind (arith, common_steps) in
    rw (same, e) (h (suc d) le')

closed_beyond : (g : ℕ → ℕ) (depth : ℕ) → ((d : ℕ) → depth < d → g d ≡ 0)
    → (d : ℕ) → depth - 1 < d → operator_step roles.Closes d g ≡ 0
closed_beyond g depth k d lt = k (suc d) (omega arith)

-- ---- an operator

composed_held : (g : ℕ → ℕ) (depth : ℕ) (counts : List ℕ) → depth < length counts
    → ((d : ℕ) → d ≤ depth → get_or counts (depth - d) 0 ≡ g d)
    → (d : ℕ) → d ≤ depth
    → get_or (slice_set counts depth (slice_index counts depth + 1)) (depth - d) 0 ≡ operator_step roles.Composes d g
composed_held g depth counts room h zero le =
    let e : depth - 0 ≡ depth = omega arith in
    let same : get_or counts depth 0 ≡ g 0 = rw e at (h 0 le) in
    rw (e, get_or-set_same) (omega arith)
composed_held g depth counts room h (suc d) le =
    let ne : depth - suc d ≡ depth → ⊥ = omega arith in
    rw get_or-set_other (h (suc d) le)

composed_beyond : (g : ℕ → ℕ) (depth : ℕ) → ((d : ℕ) → depth < d → g d ≡ 0)
    → (d : ℕ) → depth < d → operator_step roles.Composes d g ≡ 0
composed_beyond g depth k zero lt = absurd (omega arith)
composed_beyond g depth k (suc d) lt = k (suc d) lt

-- ---- a token that ends a game expression

ended_held : (g : ℕ → ℕ) (depth : ℕ) (counts : List ℕ) → depth < length counts
    → ((d : ℕ) → d ≤ depth → get_or counts (depth - d) 0 ≡ g d)
    → (d : ℕ) → d ≤ depth → get_or (slice_set counts depth 0) (depth - d) 0 ≡ operator_step roles.Ends d g
ended_held g depth counts room h zero le =
    let e : depth - 0 ≡ depth = omega arith in
    rw (e, get_or-set_same) refl
ended_held g depth counts room h (suc d) le =
    let ne : depth - suc d ≡ depth → ⊥ = omega arith in
    rw get_or-set_other (h (suc d) le)

ended_beyond : (g : ℕ → ℕ) (depth : ℕ) → ((d : ℕ) → depth < d → g d ≡ 0)
    → (d : ℕ) → depth < d → operator_step roles.Ends d g ≡ 0
ended_beyond g depth k zero lt = absurd (omega arith)
ended_beyond g depth k (suc d) lt = k (suc d) lt

-- ---- any token

passed : (r : Role) (f g : ℕ → ℕ) (depth : ℕ) (counts : List ℕ) (after : ℕ) (made : List ℕ)
    → Passes r depth counts after made → length counts ≡ 65 → depth ≤ 64 → Kept f g depth counts
    → Kept (λ d. open_step r d f) (λ d. operator_step r d g) after made
passed roles.Opens f g depth counts after made p size small kept =
    subst (λ n. Kept (λ d. open_step roles.Opens d f) (λ d. operator_step roles.Opens d g) n made) (sym p.1)
    (subst (λ m. Kept (λ d. open_step roles.Opens d f) (λ d. operator_step roles.Opens d g) (depth + 1) m) (sym p.2)
    (record {
      brackets = opened f depth kept.brackets;
      held = opened_held g depth counts (omega (arith, p.0)) kept.held;
      beyond = opened_beyond g depth kept.beyond;
    }))
passed roles.Closes f g depth counts after made p size small kept =
    subst (λ n. Kept (λ d. open_step roles.Closes d f) (λ d. operator_step roles.Closes d g) n made) (sym p.0)
    (subst (λ m. Kept (λ d. open_step roles.Closes d f) (λ d. operator_step roles.Closes d g) (depth - 1) m) (sym p.1)
    (record {
      brackets = closed f depth kept.brackets;
      held = closed_held g depth counts (omega arith) kept.held kept.beyond;
      beyond = closed_beyond g depth kept.beyond;
    }))
passed roles.Composes f g depth counts after made p size small kept =
    subst (λ n. Kept (λ d. open_step roles.Composes d f) (λ d. operator_step roles.Composes d g) n made) (sym p.1)
    (subst (λ m. Kept (λ d. open_step roles.Composes d f) (λ d. operator_step roles.Composes d g) depth m) (sym p.2)
    (record {
      brackets = kept.brackets;
      held = composed_held g depth counts (omega arith) kept.held;
      beyond = composed_beyond g depth kept.beyond;
    }))
passed roles.Ends f g depth counts after made p size small kept =
    subst (λ n. Kept (λ d. open_step roles.Ends d f) (λ d. operator_step roles.Ends d g) n made) (sym p.0)
    (subst (λ m. Kept (λ d. open_step roles.Ends d f) (λ d. operator_step roles.Ends d g) depth m) (sym p.1)
    (record {
      brackets = kept.brackets;
      held = ended_held g depth counts (omega arith) kept.held;
      beyond = ended_beyond g depth kept.beyond;
    }))
passed roles.Other f g depth counts after made p size small kept =
    subst (λ n. Kept f g n made) (sym p.0) (subst (λ m. Kept f g depth m) (sym p.1) kept)

-- ---- a token that is passed is not too deep

passed_is_not : (r : Role) (front : List Token) (depth : ℕ) (counts : List ℕ) (after : ℕ) (made : List ℕ)
    → Kept (open_in front) (operators_in front) depth counts → Passes r depth counts after made → IsDeepBehind front r → ⊥
passed_is_not roles.Opens front depth counts after made kept p deep = omega (arith, kept.brackets 0, p.0)
passed_is_not roles.Composes front depth counts after made kept p deep =
    let e : depth - 0 ≡ depth = omega arith in
    let same : get_or counts depth 0 ≡ operators_in front 0 = rw e at (kept.held 0 (omega arith)) in
    omega (arith, p.0)
passed_is_not roles.Closes front depth counts after made kept p deep = deep
passed_is_not roles.Ends front depth counts after made kept p deep = deep
passed_is_not roles.Other front depth counts after made kept p deep = deep

-- ---- along the tokens

-- how far `first_deep` has come
pub record Come (tokens : List Token) (at depth : ℕ) (counts : List ℕ) : Type 0 where
  pub size : length counts ≡ 65
  pub small : depth ≤ 64
  pub kept : Kept (open_in (before tokens at)) (operators_in (before tokens at)) depth counts
  pub none : (j : ℕ) → j < at → IsDeep tokens j → ⊥

bounded : (r : Role) (depth : ℕ) (counts : List ℕ) (after : ℕ) (made : List ℕ)
    → Passes r depth counts after made → depth ≤ 64 → after ≤ 64
bounded roles.Opens depth counts after made p small = omega (arith, p.0, p.1)
bounded roles.Closes depth counts after made p small = omega (arith, p.0)
bounded roles.Composes depth counts after made p small = omega (arith, p.1)
bounded roles.Ends depth counts after made p small = omega (arith, p.0)
bounded roles.Other depth counts after made p small = omega (arith, p.0)

pub one_more : (tokens : List Token) (at : ℕ) (t : Token) → at < length tokens → slice_get tokens at ≡ Some t
    → before tokens (at + 1) ≡ t ∷ before tokens at
one_more tokens at t lt is =
    ap reverse (take_more tokens at t lt ∙ ap (λ x. take at tokens ++ x ∷ []) (get_or_from_slice_get tokens at t t is))
    ∙ reverse-append (take at tokens) (t ∷ [])

pub come_on : (tokens : List Token) (at : ℕ) (t : Token) (depth : ℕ) (counts : List ℕ) (after : ℕ) (made : List ℕ)
    → at < length tokens → slice_get tokens at ≡ Some t → length made ≡ 65 → Come tokens at depth counts
    → Passes (role_of t.kind) depth counts after made → Come tokens (at + 1) after made
come_on tokens at t depth counts after made lt is size come p = record {
  size = size;
  small = bounded (role_of t.kind) depth counts after made p come.small;
  kept =
      subst (λ front. Kept (open_in front) (operators_in front) after made) (sym (one_more tokens at t lt is))
      (passed (role_of t.kind) (open_in (before tokens at)) (operators_in (before tokens at)) depth counts after made p come.size come.small come.kept);
  none =
      below_more (λ j. IsDeep tokens j → ⊥) at come.none
      (λ deep. passed_is_not (role_of t.kind) (before tokens at) depth counts after made come.kept p
      (subst (λ o. IsSomeAnd o (λ u. IsDeepBehind (before tokens at) (role_of u.kind))) is deep));
}

pub within : (tokens : List Token) (k : ℕ) (P : Token → Type 0) → IsSomeAnd (slice_get tokens k) P → k < length tokens
within [] k P some = absurd some
within (t ∷ tokens) zero P some = omega arith
within (t ∷ tokens) (suc k) P some = let lt : k < length tokens = within tokens k P some in omega arith

pub deep_nowhere : (tokens : List Token) (depth : ℕ) (counts : List ℕ) → Come tokens (length tokens) depth counts
    → (k : ℕ) → IsDeep tokens k → ⊥
deep_nowhere tokens depth counts come k deep =
    come.none k (within tokens k (λ t. IsDeepBehind (before tokens k) (role_of t.kind)) deep) deep
