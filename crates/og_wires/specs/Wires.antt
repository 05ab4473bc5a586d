-- Wires: expressions with what they are handed to, names of what comes out of a game, and results.
use Rattle.std.specs.Prelude.{ℕ, ◌+◌, ◌==◌, Bool, true, ◌&&◌, is_some, if◌then◌else◌, List, [], ◌∷◌, ◌++◌, length, Option, Some, None, Ok, Err, slice_get}
use Rattle.og_types.specs.declared.ty.Ty.{Ty}
use Rattle.og_types.specs.Ty.{fits}
use Rattle.og_game.specs.declared.scope.Variable.{Variable}
use Rattle.og_game.specs.declared.scope.Origin.{Origin}
use Rattle.og_game.specs.declared.scope.Stand.{Stand}
use Rattle.og_syntax.specs.Places.{expr_place}
use Rattle.og_syntax.specs.declared.types.NameTree.{NameTree}
use Rattle.og_syntax.specs.declared.types.ParamTree.{ParamTree}
use Rattle.og_syntax.specs.declared.expressions.ExprTree.{ExprTree}
use Rattle.og_syntax.specs.declared.expressions.ResultTree.{ResultTree}
use Rattle.og_syntax.specs.declared.games.LineTree.{LineTree}
use Rattle.og_names.specs.Names.{has_name}
use Rattle.og_typing.specs.declared.fault.WireFault.TheVariants.{WrongType, WrongCount}
use Rattle.og_typing.specs.Checked.{Checked, ◌>>=◌, ◌>>◌, rule, in_turn}
use Rattle.og_typing.specs.Types.{Table, type_walk}
use Rattle.og_typing.specs.Scopes.{Names}
use Rattle.og_typing.specs.Sizes.{nodes_in}
use Rattle.og_typing.specs.Uses.{variable_in}
use Rattle.og_typing.specs.Variables.{Around, variable_walk, with_variable, whole_walk}
use Rattle.og_wires.specs.declared.kind.Size.{Size}
use Rattle.og_wires.specs.declared.wires.Handed.{Handed}
use Rattle.og_wires.specs.declared.wires.Found.{Found}
use Rattle.og_wires.specs.declared.wires.Results.{Results}
use Rattle.og_wires.specs.Sites.{with_lines}

-- ---- names

-- the names that an expression sees: in a block forwards with what comes backwards hidden
abbrev pub names_at : Around → Table Variable → Table (Unit {0}) → Stand → Names
names_at around variables hidden stand = record {
  declared = around.declared;
  given = around.given;
  variables = variables;
  hidden = hidden;
  stand = stand;
}

-- one name more, if it isn't there
abbrev pub hide : List ℕ → Table (Unit {0}) → Table (Unit {0})
hide name hidden = if has_name name hidden then hidden else hidden ++ (name, tt) ∷ []

abbrev pub hide_all : Table (Unit {0}) → List NameTree → Table (Unit {0})
hide_all hidden [] = hidden
hide_all hidden (name ∷ names) = hide_all (hide name.name hidden) names

abbrev pub hide_lines : {A : Type 0} → Table (Unit {0}) → List (LineTree A) → Table (Unit {0})
hide_lines hidden [] = hidden
hide_lines hidden (line ∷ lines) = hide_lines (hide_all hidden line.feedback) lines

abbrev pub hide_params : Table (Unit {0}) → List ParamTree → Table (Unit {0})
hide_params hidden [] = hidden
hide_params hidden (param ∷ params) = hide_params (hide param.name hidden) params

-- what comes backwards in a block: what goes back from its lines, and what comes back to it
abbrev pub backward_names : {A : Type 0} → List (LineTree A) → List ParamTree → Table (Unit {0})
backward_names lines returns = hide_params (hide_lines [] lines) returns

-- the type for a name that is wanted
abbrev pub type_there : ℕ → Option Ty → Checked Ty
type_there at (Some t) = Ok t
type_there at None = Err (WrongCount at)

-- names for the types from the place on
abbrev pub each_named : Around → Origin → List Ty → ℕ → Table Variable → List NameTree → Checked (Table Variable)
each_named around origin types i variables [] = Ok variables
each_named around origin types i variables (name ∷ names) = do
  variable_walk around variables name.at name.name
  t ← type_there name.at (slice_get types i)
  each_named around origin types (i + 1) (with_variable variables name.name origin t) names

-- names for all types, one for each
abbrev pub names_walk : Around → ℕ → Origin → List Ty → Table Variable → List NameTree → Checked (Table Variable)
names_walk around at origin types variables names = do
  rule (length names == length types) (WrongCount at)
  each_named around origin types 0 variables names

-- ---- expressions

-- An expression makes a flat line; where a block only passes wires on, that which is just a variable makes none.
abbrev pub with_expression : Bool → Names → Size → ExprTree → Size
with_expression passes names size e =
    if passes && is_some (variable_in e names) then size else with_lines 1 (nodes_in e names) size

-- one expression more
abbrev pub handing : Names → Handed → ExprTree → Checked Handed
handing names before e = do
  found ← whole_walk e names
  Ok (record {
    items = before.items ++ (record { at = expr_place e; ty = found.ty }) ∷ [];
    size = with_expression true names before.size e;
  })

abbrev pub handed_walk : Names → Size → List ExprTree → Checked Handed
handed_walk names size = in_turn (handing names) (record { items = []; size = size })

-- The type goes as the one that is there.
abbrev pub goes_there : Option Ty → Found → Checked (Unit {0})
goes_there None found = Err (WrongType found.at)
goes_there (Some wanted) found = rule (fits found.ty wanted) (WrongType found.at)

-- The types go as those from the place on.
abbrev pub all_go : List Ty → ℕ → List Found → Checked (Unit {0})
all_go wanted i [] = Ok tt
all_go wanted i (found ∷ more) = do
  goes_there (slice_get wanted i) found
  all_go wanted (i + 1) more

-- What is handed over is as much as is wanted, and goes as that.
abbrev pub takes : ℕ → List Ty → List Found → Checked (Unit {0})
takes at wanted items = do
  rule (length items == length wanted) (WrongCount at)
  all_go wanted 0 items

-- ---- results

-- A result goes as its written type.
abbrev pub result_walk : Bool → Names → Results → ResultTree ExprTree → Checked Results
result_walk passes names before result = do
  found ← whole_walk result.expr names
  t ← type_walk result.ty names.declared
  rule (fits found.ty t) (WrongType (expr_place result.expr))
  Ok (record { types = before.types ++ t ∷ []; size = with_expression passes names before.size result.expr })

abbrev pub results_walk : Bool → Names → Size → List (ResultTree ExprTree) → Checked Results
results_walk passes names size = in_turn (result_walk passes names) (record { types = []; size = size })
