-- What the parameters of a game stand for, by the arguments of its call.
use Rattle.std.specs.Prelude.{ℕ, ◌+◌, not, ◌&&◌, List, [], ◌∷◌, ◌++◌, Option, Some, None, slice_get}
use Rattle.og_expr.specs.declared.node.NodeOf.TheVariants as nodes
use Rattle.og_expr.specs.declared.node.Term.{Term}
use Rattle.og_expr.specs.Types.{type_of, goes_as}
use Rattle.og_syntax.specs.declared.values.ValueTree.{ValueTree}
use Rattle.og_syntax.specs.declared.values.ValueTree.TheOpen.{ValueTree-F}
use Rattle.og_syntax.specs.declared.values.ValueTree.TheOpen as values
use Rattle.og_syntax.specs.declared.values.ValueTree.TheViews.{out-ValueTree}
use Rattle.og_syntax.specs.declared.games.ArgTree.{ArgTree}
use Rattle.og_syntax.specs.declared.games.ArgTree.TheVariants as args
use Rattle.og_syntax.specs.declared.games.AgentTree.{AgentTree}
use Rattle.og_syntax.specs.declared.games.AgentTree.TheVariants as agents
use Rattle.og_syntax.specs.declared.declarations.GameParam.{GameParam}
use Rattle.og_syntax.specs.declared.declarations.ParamKind.{ParamKind}
use Rattle.og_syntax.specs.declared.declarations.ParamKind.TheVariants as kinds
use Rattle.og_names.specs.Names.{lookup, has_name}
use Rattle.og_typing.specs.declared.meaning.Meaning.{Meaning}
use Rattle.og_typing.specs.Types.{Table}
use Rattle.og_inlining.specs.Steps.{◌>>=◌, ◌>>◌, provided}
use Rattle.og_inlining.specs.Trees.{built, case_tree}
use Rattle.og_atoms.specs.Atoms.{type_in}
use Rattle.og_elaboration.specs.declared.given.Given.{Given}

-- ---- agents

-- the parameter round the call that a value is, where it is a name
abbrev pub named_in : {A : Type 0} → Table A → ValueTree-F ValueTree → Option A
named_in given (values.Name at name) = lookup name given
named_in given _ = None

-- the name of the agent that an argument is
abbrev pub agent_given : Given → ArgTree → Option (List ℕ)
agent_given round (args.Quoted at name) = Some name
agent_given round (args.Var at name) = lookup name round.agents
agent_given round (args.Val v) = named_in round.agents (out-ValueTree v)

-- the name of the agent who decides
abbrev pub agent_named : Given → AgentTree → Option (List ℕ)
agent_named round (agents.Quoted at name) = Some name
agent_named round (agents.Var at name) = lookup name round.agents

-- ---- values

-- a value that is no tuple
abbrev pub leaf_in : Table Meaning → ValueTree-F ValueTree → Option Term
leaf_in declared (values.Name at name) = case_tree (lookup name declared)
leaf_in declared (values.Flag at flag) = built (nodes.Flag flag)
leaf_in declared (values.Number at n) = built (nodes.Literal n)
leaf_in declared (values.Tuple at parts) = None

-- the tree of a parameter round the call, else that of a value
abbrev pub tree_or_leaf : Table Meaning → ValueTree-F ValueTree → Option Term → Option Term
tree_or_leaf declared v (Some tree) = Some tree
tree_or_leaf declared v None = leaf_in declared v

abbrev pub value_given : Table Meaning → Given → ArgTree → Option Term
value_given declared round (args.Quoted at name) = None
value_given declared round (args.Var at name) = lookup name round.values
value_given declared round (args.Val v) = tree_or_leaf declared (out-ValueTree v) (named_in round.values (out-ValueTree v))

-- ---- parameters

-- No parameter before has the name.
abbrev pub is_new : List ℕ → Given → Option (Unit {0})
is_new name found = provided (not (has_name name found.values) && not (has_name name found.agents))

abbrev pub with_agent : List ℕ → Given → List ℕ → Given
with_agent name found agent = record { values = found.values; agents = found.agents ++ (name, agent) ∷ [] }

abbrev pub with_value : List ℕ → Given → Term → Given
with_value name found tree = record { values = found.values ++ (name, tree) ∷ []; agents = found.agents }

abbrev pub agent_added : Given → List ℕ → Given → ArgTree → Option Given
agent_added round name found arg = do
  agent ← agent_given round arg
  Some (with_agent name found agent)

-- with what stands for a parameter of this kind
abbrev pub kind_given : Table Meaning → Given → List ℕ → Given → ArgTree → ParamKind → Option Given
kind_given declared round name found arg kinds.Agent = agent_added round name found arg
kind_given declared round name found arg (kinds.Of written) = do
  t ← type_in declared written
  tree ← value_given declared round arg
  provided (goes_as t (type_of tree))
  Some (with_value name found tree)

-- one parameter more, whose argument is there
abbrev pub with_argument : Table Meaning → Given → Given → GameParam → Option ArgTree → Option Given
with_argument declared round found param None = None
with_argument declared round found param (Some arg) = do
  is_new param.name found
  kind_given declared round param.name found arg param.kind

-- what the parameters stand for, from the place on, behind those before
abbrev pub given_from : Table Meaning → Given → List ArgTree → ℕ → Given → List GameParam → Option Given
given_from declared round args at found [] = Some found
given_from declared round args at found (param ∷ params) = do
  next ← with_argument declared round found param (slice_get args at)
  given_from declared round args (at + 1) next params

abbrev pub nothing_given : Given
nothing_given = record { values = []; agents = [] }

-- what the parameters of a called game stand for, where the parameters round the call stand for that
abbrev pub given_in : Table Meaning → Given → List GameParam → List ArgTree → Option Given
given_in declared round params args = given_from declared round args 0 nothing_given params
