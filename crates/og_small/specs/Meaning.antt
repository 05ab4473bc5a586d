-- What a small game pays: payments, totals and deviations.
use Rattle.std.specs.Prelude.{ℕ, ◌-◌, nat_lt, List, [], ◌∷◌, map, flat_map, sum_by, filter, Bool, not, if◌then◌else◌, bytes_eq, find, slice_set}
use Rattle.std.specs.List.{enumerate_from, list_any}
use Rattle.std.specs.Option.{option_map_or}
use Rattle.std.specs.Cmp.Lexicographic.{pointwise}
use Rattle.og_small.specs.declared.tree.SmallGame.{SmallGame}
use Rattle.og_small.specs.declared.tree.Line.{Line}
use Rattle.og_small.specs.declared.tree.Key.{Key}
use Rattle.og_small.specs.declared.tree.Row.{Row}
use Rattle.og_small.specs.declared.tree.Section.{Section}
use Rattle.og_small.specs.declared.deviations.Deviation.{Deviation}
use Rattle.og_small.specs.Rules.{cases_of}

-- A joint choice is a case for each line, in order.

-- what the line with this output chooses
abbrev pub choice_at : List Line → List (List ℕ) → List ℕ → List ℕ
choice_at [] choices output = []
choice_at (line ∷ lines) [] output = []
choice_at (line ∷ lines) (choice ∷ choices) output =
    if bytes_eq line.output output then choice else choice_at lines choices output

-- the row's cases are what is chosen at the keys
abbrev pub is_played : List Line → List (List ℕ) → List Key → Row → Bool
is_played lines choices keys row =
    pointwise (λ key name. bytes_eq (choice_at lines choices key.output) name) keys row.cases

-- the number in the line's table at the joint choice
abbrev pub pay : List Line → List (List ℕ) → Line → ℕ
pay lines choices line = option_map_or (λ row. row.pay) (find (is_played lines choices line.keys) line.rows) 0

-- the sum of the payments of the agent's lines
abbrev pub total : List Line → List (List ℕ) → List ℕ → ℕ
total lines choices agent =
    sum_by (λ line. if bytes_eq line.agent agent then pay lines choices line else 0) lines

-- the deviation to this action at this line, if it gains
abbrev pub deviation : List Line → List (List ℕ) → ℕ → Line → List ℕ → List Deviation
deviation lines choices number line action =
    let before = total lines choices line.agent in
    let after = total lines (slice_set choices (number - 1) action) line.agent in
    if nat_lt before after
    then record { line = number; agent = line.agent; action = action; gain = after - before } ∷ []
    else []

-- the deviations at a line with its number, by case
abbrev pub deviations_at : SmallGame → List (List ℕ) → ℕ × Line → List Deviation
deviations_at g choices place =
    flat_map (deviation g.lines choices place.0 place.1)
    (option_map_or (λ cases. cases) (cases_of g.types place.1.action) [])

-- all deviations, by line and then by case
abbrev pub deviations : SmallGame → List (List ℕ) → List Deviation
deviations g choices = flat_map (deviations_at g choices) (enumerate_from 1 g.lines)

-- the agents, in order of first appearance
abbrev pub agents : List Line → List (List ℕ)
agents [] = []
agents (line ∷ lines) = line.agent ∷ filter (λ agent. not (bytes_eq line.agent agent)) (agents lines)

-- one of the lines is the agent's
abbrev pub has_agent : List Line → List ℕ → Bool
has_agent lines agent = list_any (λ line. bytes_eq line.agent agent) lines

-- what the sections choose
abbrev pub choices_of : List Section → List (List ℕ)
choices_of sections = map (λ section. section.choice) sections
