-- Games without parts: the ports of each, with how large it is, or the first rule that it breaks.
use Rattle.std.specs.Borrow.{Bor}
use Rattle.std.specs.Prelude.{◌≡◌, Result, ℕ, ◌==◌, nat_le, false, List, [], length, Option, Some, None, Ok, Err, slice_get}
use Rattle.og_native.specs.declared.ports.Ports.{Ports}
use Rattle.og_game.specs.declared.scope.Variable.{Variable}
use Rattle.og_game.specs.declared.scope.Origin.TheVariants.{Input}
use Rattle.og_game.specs.declared.scope.Stand.TheVariants.{Anywhere}
use Rattle.og_game.specs.Wired.{decision_ports, nature_ports, identity_ports}
use Rattle.og_syntax.specs.declared.types.TyTree.{TyTree}
use Rattle.og_syntax.specs.declared.types.NameTree.{NameTree}
use Rattle.og_syntax.specs.declared.types.ParamTree.{ParamTree}
use Rattle.og_syntax.specs.declared.values.RowTree.{RowTree}
use Rattle.og_syntax.specs.declared.expressions.ExprTree.{ExprTree}
use Rattle.og_syntax.specs.declared.expressions.ResultTree.{ResultTree}
use Rattle.og_syntax.specs.declared.games.AgentTree.{AgentTree}
use Rattle.og_syntax.specs.declared.games.AgentTree.TheVariants as agents
use Rattle.og_syntax.specs.declared.games.ArgTree.{ArgTree}
use Rattle.og_syntax.specs.declared.games.Among.{Among}
use Rattle.og_names.specs.Names.{lookup}
use Rattle.og_typing.specs.declared.fault.WireFault.{WireFault}
use Rattle.og_typing.specs.declared.fault.WireFault.TheVariants.{Unknown, WrongCount, TooBig}
use Rattle.og_typing.specs.declared.meaning.Given.{Given}
use Rattle.og_typing.specs.declared.meaning.Given.TheVariants as given
use Rattle.og_typing.specs.declared.meaning.Meaning.{Meaning}
use Rattle.og_typing.specs.declared.meaning.Meaning.TheVariants as meanings
use Rattle.og_typing.specs.declared.meaning.Params.{Params}
use Rattle.og_typing.specs.Checked.{Checked, ◌>>=◌, ◌>>◌, rule}
use Rattle.og_typing.specs.Types.{Table, types_walk}
use Rattle.og_typing.specs.Sizes.{plus}
use Rattle.og_typing.specs.Variables.{params_walk}
use Rattle.og_wires.specs.declared.kind.Level.{Level}
use Rattle.og_wires.specs.declared.kind.Size.{Size}
use Rattle.og_wires.specs.declared.kind.GameKind.{GameKind}
use Rattle.og_wires.specs.declared.kind.DeclaredGame.{DeclaredGame}
use Rattle.og_wires.specs.declared.rows.Choice.{Choice}
use Rattle.og_wires.specs.declared.wires.Results.{Results}
use Rattle.og_wires.specs.Sites.{Site, alone, with_lines, called}
use Rattle.og_wires.specs.Arguments.{arguments_walk}
use Rattle.og_wires.specs.Rows.{choice_walk, among_walk, actions_in, weights_walk, entries_in}
use Rattle.og_wires.specs.Wires.{names_at, results_walk}

abbrev pub game_kind : Ports → Size → GameKind
game_kind ports size = record { ports = ports; size = size }

-- ---- decisions and natures

abbrev pub agent_named : ℕ → Option Given → Checked (Unit {0})
agent_named at (Some given.Agent) = Ok tt
agent_named at (Some _) = Err (Unknown at)
agent_named at None = Err (Unknown at)

-- An agent is written, or is a parameter that stands for one.
abbrev pub agent_walk : Table Given → AgentTree → Checked (Unit {0})
agent_walk params (agents.Quoted at name) = Ok tt
agent_walk params (agents.Var at name) = agent_named at (lookup name params)

abbrev pub among_if : Table Meaning → Choice → Option Among → Checked (Unit {0})
among_if declared choice None = Ok tt
among_if declared choice (Some among) = among_walk declared choice among

abbrev pub actions_if : Option Among → ℕ
actions_if None = 0
actions_if (Some among) = actions_in among

abbrev pub decision_walk : Site → Level → ℕ → AgentTree → List TyTree → TyTree → Option Among → Checked GameKind
decision_walk site level at agent observes action among = do
  agent_walk site.around.given agent
  choice ← choice_walk site.around.declared at observes action
  among_if site.around.declared choice among
  Ok (game_kind (decision_ports choice.observes choice.chosen) (with_lines 1 (actions_if among) (alone level)))

-- the one nature of a game
abbrev pub with_scale : ℕ → Size → Size
with_scale scale size = record {
  deep = size.deep;
  nested = size.nested;
  nodes = size.nodes;
  lines = size.lines;
  weight = size.weight;
  scale = scale;
}

abbrev pub nature_walk : Site → Level → ℕ → List TyTree → TyTree → List RowTree → Checked GameKind
nature_walk site level at observes outcome rows = do
  choice ← choice_walk site.around.declared at observes outcome
  scale ← weights_walk site.around.declared choice at rows
  Ok (game_kind (nature_ports choice.observes choice.chosen) (with_scale scale (with_lines 1 (entries_in rows) (alone level))))

-- ---- functions and wires

abbrev pub no_params : Params
no_params = record { variables = []; types = [] }

-- the results of a function of the variables
abbrev pub function_results : Site → Level → Table Variable → List (ResultTree ExprTree) → Checked Results
function_results site level variables results =
    results_walk false (names_at site.around variables [] Anywhere) (alone level) results

abbrev pub forward_walk : Site → Level → List ParamTree → List (ResultTree ExprTree) → Checked GameKind
forward_walk site level params results = do
  found ← params_walk site.around Input no_params params
  made ← function_results site level found.variables results
  Ok (game_kind (record { inputs = found.types; feedback = []; outputs = made.types; returns = [] }) made.size)

abbrev pub backward_walk : Site → Level → List ParamTree → List (ResultTree ExprTree) → Checked GameKind
backward_walk site level params results = do
  found ← params_walk site.around Input no_params params
  made ← function_results site level found.variables results
  Ok (game_kind (record { inputs = []; feedback = made.types; outputs = []; returns = found.types }) made.size)

abbrev pub identity_walk : Site → Level → List TyTree → List TyTree → Checked GameKind
identity_walk site level forward backward = do
  forwards ← types_walk site.around.declared [] forward
  backwards ← types_walk site.around.declared [] backward
  Ok (game_kind (identity_ports forwards backwards) (alone level))

-- ---- the library

abbrev pub ports_found : ℕ → Option Ports → Checked Ports
ports_found at None = Err (Unknown at)
ports_found at (Some ports) = Ok ports

abbrev pub library_walk : Site → Level → NameTree → Checked GameKind
library_walk site level name = do
  ports ← ports_found name.at (lookup name.name site.blocks)
  Ok (game_kind ports (with_lines 1 0 (alone level)))

-- ---- calls

abbrev pub declared_found : ℕ → Option DeclaredGame → Checked DeclaredGame
declared_found at None = Err (Unknown at)
declared_found at (Some g) = Ok g

-- the game that a name stands for
abbrev pub game_named : ℕ → List DeclaredGame → Option Meaning → Checked DeclaredGame
game_named at games (Some (meanings.Game number)) = declared_found at (slice_get games number)
game_named at games (Some _) = Err (Unknown at)
game_named at games None = Err (Unknown at)

-- A call answers what the walk gives, as it stands.
abbrev pub FindsGame : Checked DeclaredGame → Result (Bor DeclaredGame) WireFault → Type 0
FindsGame walk (Ok g) = walk ≡ Ok g.now
FindsGame walk (Err fault) = walk ≡ Err fault

-- The body is neither too deep nor inside too many branches there, and has as many parameters.
abbrev pub call_fits : ℕ → Level → DeclaredGame → ℕ → Checked (Unit {0})
call_fits at level g count = do
  rule (nat_le (plus level.depth g.kind.size.deep) 49) (TooBig at)
  rule (nat_le (plus level.inside g.kind.size.nested) 16) (TooBig at)
  rule (count == length g.params) (WrongCount at)

abbrev pub call_walk : Site → Level → ℕ → List ℕ → List ArgTree → Checked GameKind
call_walk site level at name args = do
  g ← game_named at site.games (lookup name site.around.declared)
  call_fits at level g (length args)
  arguments_walk site.around.declared site.around.given g.params 0 args
  Ok (game_kind g.kind.ports (called level g.kind.size))
