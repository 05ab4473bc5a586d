-- The games of forms without parts, each where all that is written in it stands for something and it is well wired.
use Rattle.std.specs.Prelude.{ℕ, ◌^◌, nat_lt, not, if◌then◌else◌, List, [], Option, Some, None, is_some}
use Rattle.og_types.specs.declared.ty.Ty.{Ty}
use Rattle.og_expr.specs.declared.node.Term.{Term}
use Rattle.og_native.specs.declared.ports.Ports.{Ports}
use Rattle.og_game.specs.declared.node.GameNodeOf.{GameNodeOf}
use Rattle.og_game.specs.declared.node.GameNodeOf.TheVariants as nodes
use Rattle.og_game.specs.declared.node.Plan.{Plan}
use Rattle.og_game.specs.declared.node.Typed.{Typed}
use Rattle.og_game.specs.declared.scope.Origin.{Origin}
use Rattle.og_game.specs.declared.scope.Origin.TheVariants.{Input}
use Rattle.og_game.specs.Plans.{plan_of}
use Rattle.og_game.specs.Wired.{ports_of}
use Rattle.og_syntax.specs.declared.types.TyTree.{TyTree}
use Rattle.og_syntax.specs.declared.types.ParamTree.{ParamTree}
use Rattle.og_syntax.specs.declared.values.RowTree.{RowTree}
use Rattle.og_syntax.specs.declared.expressions.ExprTree.{ExprTree}
use Rattle.og_syntax.specs.declared.expressions.ResultTree.{ResultTree}
use Rattle.og_syntax.specs.declared.games.Among.{Among}
use Rattle.og_names.specs.Names.{lookup, has_name, place}
use Rattle.og_typing.specs.declared.meaning.Meaning.{Meaning}
use Rattle.og_typing.specs.declared.meaning.Params.{Params}
use Rattle.og_typing.specs.Types.{Table, type_walk, types_walk}
use Rattle.og_typing.specs.Variables.{with_param}
use Rattle.og_inlining.specs.Steps.{◌>>=◌, ◌>>◌, provided, in_turn, each_of, given_by}
use Rattle.og_inlining.specs.Seen.{Seen}
use Rattle.og_inlining.specs.Trees.{tree_in}
use Rattle.og_inlining.specs.Bodies.{no_params}
use Rattle.og_rows.specs.Rows.{drawn, allowed}

-- the game of a form, where it is well wired
unfoldable pub made : GameNodeOf Plan → Option Plan
made n = if is_some (ports_of (plan_of n)) then Some (plan_of n) else None

abbrev pub type_in : Table Meaning → TyTree → Option Ty
type_in declared t = given_by (type_walk t declared)

abbrev pub types_in : Table Meaning → List TyTree → Option (List Ty)
types_in declared types = given_by (types_walk declared [] types)

-- ---- decisions and natures

-- the sets of allowed actions, where there are some
abbrev pub sets_if : Table Meaning → List Ty → Ty → Option Among → Option (Option (List (List ℕ)))
sets_if declared observes action None = Some None
sets_if declared observes action (Some among) = do
  sets ← allowed declared observes action among.rows
  Some (Some sets)

-- the decision with the number, of the agent at the place
unfoldable pub decision_tree : Table Meaning → ℕ → ℕ → List TyTree → TyTree → Option Among → Option Plan
decision_tree declared number agent observes action among = do
  seen ← types_in declared observes
  chosen ← type_in declared action
  sets ← sets_if declared seen chosen among
  made (nodes.Decision number agent seen chosen sets)

-- the nature with the number, in so many parts of one
unfoldable pub nature_tree : Table Meaning → ℕ → List TyTree → TyTree → ℕ → List RowTree → Option Plan
nature_tree declared number observes outcome scale rows = do
  seen ← types_in declared observes
  t ← type_in declared outcome
  table ← drawn declared seen t scale rows
  made (nodes.Nature number seen t scale table)

-- ---- functions

-- a parameter more, whose name is new
abbrev pub param_added : Table Meaning → Origin → Params → ParamTree → Option Params
param_added declared origin found param = do
  provided (not (has_name param.name found.variables))
  t ← type_in declared param.ty
  Some (with_param found param.name origin t)

abbrev pub params_in : Table Meaning → Origin → Params → List ParamTree → Option Params
params_in declared origin = in_turn (param_added declared origin)

-- an expression with its written type
abbrev pub result_in : Seen → ResultTree ExprTree → Option Typed
result_in seen result = do
  e ← tree_in result.expr seen
  t ← type_in seen.declared result.ty
  Some (record { expr = e; ty = t })

abbrev pub results_in : Seen → List (ResultTree ExprTree) → Option (List Typed)
results_in seen = each_of (result_in seen) []

abbrev pub seen_with_params : Table Meaning → Table Term → Table Term → Params → Seen
seen_with_params declared given bodies found =
    record { declared = declared; variables = found.variables; given = given; bodies = bodies }

unfoldable pub forward_tree : Table Meaning → Table Term → Table Term → List ParamTree → List (ResultTree ExprTree) → Option Plan
forward_tree declared given bodies params results = do
  found ← params_in declared Input no_params params
  typed ← results_in (seen_with_params declared given bodies found) results
  made (nodes.Forward found.types typed)

unfoldable pub backward_tree : Table Meaning → Table Term → Table Term → List ParamTree → List (ResultTree ExprTree) → Option Plan
backward_tree declared given bodies params results = do
  found ← params_in declared Input no_params params
  typed ← results_in (seen_with_params declared given bodies found) results
  made (nodes.Backward found.types typed)

-- ---- wires and the library

unfoldable pub identity_tree : Table Meaning → List TyTree → List TyTree → Option Plan
identity_tree declared forward backward = do
  forwards ← types_in declared forward
  backwards ← types_in declared backward
  made (nodes.Id forwards backwards)

-- a block by its place in the library, with its ports
abbrev pub block_at : Option ℕ → Option Ports → Option Plan
block_at (Some number) (Some ports) = do
  provided (nat_lt number (2 ^ 32))
  made (nodes.Native number ports)
block_at _ _ = None

-- the library's block with the name
unfoldable pub native_tree : Table Ports → List ℕ → Option Plan
native_tree blocks name = block_at (place name blocks) (lookup name blocks)
