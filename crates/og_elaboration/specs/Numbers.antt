-- Decisions and natures with their numbers, in flat order, and the agents in the order in which they first decide.
use Rattle.std.specs.Prelude.{ℕ, ◌+◌, ◌-◌, ◌^◌, nat_lt, if◌then◌else◌, List, [], ◌∷◌, ◌++◌, Option, Some, None}
use Rattle.og_syntax.specs.declared.types.TyTree.{TyTree}
use Rattle.og_syntax.specs.declared.values.RowTree.{RowTree}
use Rattle.og_syntax.specs.declared.games.AgentTree.{AgentTree}
use Rattle.og_syntax.specs.declared.games.Among.{Among}
use Rattle.og_names.specs.Names.{has_name, place}
use Rattle.og_typing.specs.declared.meaning.Meaning.{Meaning}
use Rattle.og_typing.specs.Types.{Table}
use Rattle.og_inlining.specs.Steps.{◌>>=◌, ◌>>◌, provided}
use Rattle.og_atoms.specs.Atoms.{decision_tree, nature_tree}
use Rattle.og_elaboration.specs.declared.given.Given.{Given}
use Rattle.og_elaboration.specs.declared.state.State.{State}
use Rattle.og_elaboration.specs.declared.state.Decided.{Decided}
use Rattle.og_elaboration.specs.declared.state.Made.{Made}
use Rattle.og_elaboration.specs.Arguments.{agent_named}

-- the agents in order, with this one, if it is new
abbrev pub with_agent_of : List ℕ → Table (Unit {0}) → Table (Unit {0})
with_agent_of name agents = if has_name name agents then agents else agents ++ (name, tt) ∷ []

-- the next decision behind so many decisions and natures of such owners, of the agent at the place among these agents
abbrev pub decided_at : ℕ → ℕ → List ℕ → Table (Unit {0}) → Option ℕ → Option Decided
decided_at decisions natures owners agents None = None
decided_at decisions natures owners agents (Some agent) = do
  provided (nat_lt decisions (2 ^ 32 - 1))
  provided (nat_lt agent (2 ^ 32))
  Some (record {
    agent = agent;
    state = record { decisions = decisions + 1; natures = natures; agents = agents; owners = owners ++ agent ∷ [] };
  })

-- the next decision, of the agent with the name
abbrev pub decided : List ℕ → State → Option Decided
decided name state =
    decided_at state.decisions state.natures state.owners (with_agent_of name state.agents) (place name (with_agent_of name state.agents))

-- the next nature
abbrev pub drawn_next : State → Option State
drawn_next state = do
  provided (nat_lt state.natures (2 ^ 32 - 1))
  Some (record { decisions = state.decisions; natures = state.natures + 1; agents = state.agents; owners = state.owners })

-- ---- games with what was numbered

-- the decision that was numbered
unfoldable pub decision_in : Table Meaning → Decided → List TyTree → TyTree → Option Among → Option Made
decision_in declared next observes action among = do
  game ← decision_tree declared next.state.decisions next.agent observes action among
  Some (record { game = game; state = next.state })

unfoldable pub decision_made : Table Meaning → Given → State → AgentTree → List TyTree → TyTree → Option Among → Option Made
decision_made declared given state agent observes action among = do
  name ← agent_named given agent
  next ← decided name state
  decision_in declared next observes action among

-- a nature whose weights are in so many parts of one
unfoldable pub nature_made : Table Meaning → State → List TyTree → TyTree → ℕ → List RowTree → Option Made
nature_made declared state observes outcome scale rows = do
  next ← drawn_next state
  game ← nature_tree declared next.natures observes outcome scale rows
  Some (record { game = game; state = next })
