-- The decisions of a game in flat order, and what they allow.
use Rattle.std.specs.Prelude.{ℕ, ◌==◌, nat_lt, if◌then◌else◌, List, [], ◌∷◌, Option, Some, None, option_and_then, slice_get}
use Rattle.std.specs.List.{find, flat_map, range_with_len}
use Rattle.og_types.specs.declared.ty.Ty.{Ty}
use Rattle.og_game.specs.declared.node.GameNodeOf.{GameNodeOf}
use Rattle.og_game.specs.declared.node.GameNodeOf.TheVariants as nodes
use Rattle.og_game.specs.declared.node.Plan.{Plan}
use Rattle.og_game.specs.declared.node.Plan.TheFolds.{fold-Plan}
use Rattle.og_game.specs.Parts.{parts}
use Rattle.og_game.specs.Wired.{observations, values}

-- a decision as it stands in a game
pub record Choice : Type 0 where
  pub number : ℕ
  pub agent : ℕ
  pub observes : List Ty
  pub action : Ty
  pub allowed : Option (List (List ℕ))

-- a decision itself, and at any other form those of its parts
abbrev pub choices_rule : GameNodeOf (List Choice) → List Choice
choices_rule (nodes.Decision number agent observes action allowed) =
    record { number = number; agent = agent; observes = observes; action = action; allowed = allowed } ∷ []
choices_rule n = flat_map (λ choices. choices) (parts n)

-- the decisions of a game in flat order
abbrev pub choices_of : Plan → List Choice
choices_of = fold-Plan (List Choice) (λ level. choices_rule level.node)

-- the first with the number
abbrev pub numbered : ℕ → List Choice → Option Choice
numbered d = find (λ choice. choice.number == d)

-- the ranks below the count
abbrev pub ranks : ℕ → List ℕ
ranks count = range_with_len 0 count

-- the set of the observation, where there are sets, and all ranks of actions at each observation elsewhere
abbrev pub set_at : ℕ → ℕ → Option (List (List ℕ)) → ℕ → Option (List ℕ)
set_at observations actions (Some sets) seen = slice_get sets seen
set_at observations actions None seen = if nat_lt seen observations then Some (ranks actions) else None

-- the ranks of the actions that a decision allows at the observation of the rank
abbrev pub allowed_at : ℕ → Choice → Option (List ℕ)
allowed_at seen choice = set_at (observations choice.observes) (values choice.action) choice.allowed seen

-- those that the first decision with the number allows there
abbrev pub allowed_of : ℕ → ℕ → Plan → Option (List ℕ)
allowed_of d seen g = option_and_then (allowed_at seen) (numbered d (choices_of g))

-- ---- what a game keeps

-- of a decision without sets the ranks of its actions
abbrev pub all_rule : {A : Type 0} → GameNodeOf A → List ℕ
all_rule (nodes.Decision number agent observes action None) = ranks (values action)
all_rule n = []

abbrev pub all_of : Plan → List ℕ
all_of = fold-Plan (List ℕ) (λ level. all_rule level.node)
