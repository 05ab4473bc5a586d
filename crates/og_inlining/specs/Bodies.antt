-- The bodies of declared functions as trees, in order.
use Rattle.std.specs.Prelude.{◌≡◌, ℕ, not, List, [], ◌∷◌, ◌++◌, Option, Some, None, Result, Ok, Err}
use Rattle.og_expr.specs.declared.expr.BuildFault.{BuildFault}
use Rattle.og_expr.specs.declared.expr.BuildFault.TheVariants.{BadType, Memory}
use Rattle.og_expr.specs.declared.node.Term.{Term}
use Rattle.og_game.specs.declared.scope.Variable.{Variable}
use Rattle.og_game.specs.declared.scope.Origin.TheVariants.{Input}
use Rattle.og_syntax.specs.declared.types.ParamTree.{ParamTree}
use Rattle.og_syntax.specs.declared.expressions.ExprTree.{ExprTree}
use Rattle.og_names.specs.Names.{has_name}
use Rattle.og_typing.specs.declared.meaning.Meaning.{Meaning}
use Rattle.og_typing.specs.declared.meaning.Params.{Params}
use Rattle.og_typing.specs.Types.{Table}
use Rattle.og_typing.specs.Variables.{Around, params_walk}
use Rattle.og_inlining.specs.Steps.{◌>>=◌, ◌>>◌, provided, given_by}
use Rattle.og_inlining.specs.Seen.{Seen}
use Rattle.og_inlining.specs.Trees.{tree_in}

abbrev pub no_params : Params
no_params = record { variables = []; types = [] }

-- round the parameters of the function with the name
abbrev pub round_function : Table Meaning → List ℕ → Around
round_function declared name = record { declared = declared; own = name; given = [] }

-- what a function's body sees
abbrev pub seen_inside : Table Meaning → Table Variable → Table Term → Seen
seen_inside declared variables bodies = record { declared = declared; variables = variables; given = []; bodies = bodies }

-- a function's body, whose variables are the parameters
abbrev pub body_tree : List ℕ → List ParamTree → ExprTree → Table Meaning → Table Term → Option Term
body_tree name params body declared bodies = do
  found ← given_by (params_walk (round_function declared name) Input no_params params)
  tree_in body (seen_inside declared found.variables bodies)

-- with a function's body behind those before it, where its name is new
abbrev pub with_body : List ℕ → List ParamTree → ExprTree → Table Meaning → Table Term → Option (Table Term)
with_body name params body declared bodies = do
  provided (not (has_name name bodies))
  tree ← body_tree name params body declared bodies
  Some (bodies ++ (name, tree) ∷ [])

-- A call makes of a table what is there, and answers BadType exactly where nothing is; a refused one leaves it as it was.
abbrev pub Adds : {A : Type 0} → Option A → A → Result (Unit {0}) BuildFault → A → Type 0
Adds found old (Ok _) new = found ≡ Some new
Adds found old (Err BadType) new = (found ≡ None) × (new ≡ old)
Adds found old (Err Memory) new = new ≡ old
