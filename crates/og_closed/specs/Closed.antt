-- Closed games: what a game keeps that stands for itself.
use Rattle.std.specs.Prelude.{◌≡◌, ◌≢◌, ℕ, ◌^◌, ◌<◌, ◌≤◌, ◌==◌, not, List, [], ◌∷◌, map, length, All, AllPairs, Some, slice_get}
use Rattle.std.specs.List.{filter, flat_map, range_with_len}
use Rattle.std.specs.Option.{option_map}
use Rattle.og_types.specs.declared.enums.Enums.{Enums}
use Rattle.og_native.specs.declared.ports.Ports.{Ports}
use Rattle.og_game.specs.declared.node.Plan.{Plan}
use Rattle.og_game.specs.Wired.{ports_of}
use Rattle.og_game.specs.Choices.{choices_of}
use Rattle.og_closed.specs.declared.closed.ClosedPlan.{ClosedPlan}
use Rattle.og_closed.specs.Lines.{flat_lines}
use Rattle.og_closed.specs.Natures.{natures_of, product}
use Rattle.og_closed.specs.Families.{Occurrence, occurrences_of}

abbrev pub closed_of : Plan → Enums → List (List ℕ) → List ℕ → ClosedPlan
closed_of game enums agents owners = record { game = game; enums = enums; agents = agents; owners = owners }

abbrev pub no_ports : Ports
no_ports = record { inputs = []; feedback = []; outputs = []; returns = [] }

-- 1, 2 and so on
abbrev pub Follow : List ℕ → Type 0
Follow numbers = numbers ≡ range_with_len 1 (length numbers)

-- each number once, where it stands first
abbrev pub firsts : List ℕ → List ℕ
firsts [] = []
firsts (n ∷ ns) = n ∷ filter (λ m. not (m == n)) (firsts ns)

-- The enum is there, with so many cases.
abbrev pub IsNamed : Enums → Occurrence → Type 0
IsNamed enums one = option_map (λ f. length f.cases) (slice_get enums.families one.family) ≡ Some one.cases

-- the names of all cases of all enums
abbrev pub case_names : Enums → List (List ℕ)
case_names enums = flat_map (λ f. f.cases) enums.families

pub record IsClosed (c : ClosedPlan) : Type 0 where
  pub portless : ports_of c.game ≡ Some no_ports
  pub few_lines : flat_lines c.game ≤ 4096
  pub decisions_follow : Follow (map (λ choice. choice.number) (choices_of c.game))
  pub natures_follow : Follow (map (λ nature. nature.number) (natures_of c.game))
  pub owned : c.owners ≡ map (λ choice. choice.agent) (choices_of c.game)
  pub agents_appear : firsts c.owners ≡ range_with_len 0 (length c.agents)
  pub agents_differ : AllPairs (λ a b. a ≢ b) c.agents
  pub enums_named : All (IsNamed c.enums) (occurrences_of c.game)
  pub cases_differ : AllPairs (λ a b. a ≢ b) (case_names c.enums)
  pub scale_small : product (map (λ nature. nature.scale) (natures_of c.game)) < 2 ^ 62
