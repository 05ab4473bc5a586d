-- Declarations: names in order, each once, and what they stand for.
use Rattle.std.specs.Prelude.{ℕ, ◌^◌, nat_le, nat_lt, ◌-◌, Bool, ◌||◌, not, List, [], ◌∷◌, ◌++◌, length, replicate, Ok}
use Rattle.og_types.specs.declared.ty.Ty.{Ty}
use Rattle.og_types.specs.declared.ty.Ty.TheVariants as ty
use Rattle.og_types.specs.Ty.{fits}
use Rattle.og_expr.specs.Counts.{capped}
use Rattle.og_game.specs.declared.scope.Variable.{Variable}
use Rattle.og_game.specs.declared.scope.Origin.{Origin}
use Rattle.og_game.specs.declared.scope.Origin.TheVariants.{Input}
use Rattle.og_game.specs.declared.scope.Stand.TheVariants.{Anywhere}
use Rattle.og_syntax.specs.Places.{expr_place}
use Rattle.og_syntax.specs.declared.types.NameTree.{NameTree}
use Rattle.og_syntax.specs.declared.types.ParamTree.{ParamTree}
use Rattle.og_syntax.specs.declared.types.TyTree.{TyTree}
use Rattle.og_syntax.specs.declared.expressions.ExprTree.{ExprTree}
use Rattle.og_names.specs.Names.{same_name, has_name}
use Rattle.og_typing.specs.declared.fault.WireFault.TheVariants.{Twice, WrongType, TooManyValues, TooBig}
use Rattle.og_typing.specs.declared.kind.Kind.{Kind}
use Rattle.og_typing.specs.declared.meaning.Meaning.{Meaning}
use Rattle.og_typing.specs.declared.meaning.Meaning.TheVariants as meanings
use Rattle.og_typing.specs.declared.meaning.Function.{Function}
use Rattle.og_typing.specs.declared.meaning.Given.{Given}
use Rattle.og_typing.specs.declared.meaning.Params.{Params}
use Rattle.og_typing.specs.declared.meaning.Around as code
use Rattle.og_typing.specs.Checked.{Checked, ◌>>=◌, ◌>>◌, rule, in_turn}
use Rattle.og_typing.specs.Types.{Table, type_walk}
use Rattle.og_typing.specs.Scopes.{Names}
use Rattle.og_typing.specs.Expressions.{expr_walk}
use Rattle.og_typing.specs.Sizes.{plus, nodes_in, own_nodes}
use Rattle.og_typing.specs.Uses.{uses_in, variable_in}

-- an outermost expression, which is no larger than it may be
abbrev pub whole_walk : ExprTree → Names → Checked Kind
whole_walk e names = do
  found ← expr_walk e names 1
  rule (nat_le (nodes_in e names) 65536) (TooBig (expr_place e))
  Ok found

-- what surrounds the scope of a declaration: what is declared before it, its own name, and a game's parameters
pub record Around : Type 0 where
  pub declared : Table Meaning
  pub own : List ℕ
  pub given : Table Given

abbrev pub around_of : code.Around → Around
around_of a = record { declared = a.declared.now; own = a.own.now; given = a.given.now }

abbrev pub is_free : Around → Table Variable → List ℕ → Bool
is_free around variables name =
    not ((has_name name around.declared || same_name name around.own) || (has_name name around.given || has_name name variables))

-- A variable's name is free, and there are fewer than 2^32 variables.
abbrev pub variable_walk : Around → Table Variable → ℕ → List ℕ → Checked (Unit {0})
variable_walk around variables at name = do
  rule (is_free around variables name) (Twice at)
  rule (nat_lt (length variables) (2 ^ 32 - 1)) (TooBig at)

abbrev pub with_variable : Table Variable → List ℕ → Origin → Ty → Table Variable
with_variable variables name origin t = variables ++ (name, record { ty = t; origin = origin }) ∷ []

abbrev pub with_param : Params → List ℕ → Origin → Ty → Params
with_param found name origin t =
    record { variables = with_variable found.variables name origin t; types = found.types ++ t ∷ [] }

-- a parameter: its name, then its type
abbrev pub param_walk : Around → Origin → Params → ParamTree → Checked Params
param_walk around origin found param = do
  variable_walk around found.variables param.at param.name
  t ← type_walk param.ty around.declared
  Ok (with_param found param.name origin t)

abbrev pub params_walk : Around → Origin → Params → List ParamTree → Checked Params
params_walk around origin = in_turn (param_walk around origin)

-- ---- types

-- A declared name wasn't there.
abbrev pub name_free : Table Meaning → ℕ → List ℕ → Checked (Unit {0})
name_free declared at name = rule (not (has_name name declared)) (Twice at)

abbrev pub with_meaning : Table Meaning → List ℕ → Meaning → Table Meaning
with_meaning declared name meaning = declared ++ (name, meaning) ∷ []

-- the cases of an enum with so many, from the index on, behind what is declared
abbrev pub cases_walk : ℕ → ℕ → ℕ → Table Meaning → List NameTree → Checked (Table Meaning)
cases_walk family count index declared [] = Ok declared
cases_walk family count index declared (case ∷ more) = do
  name_free declared case.at case.name
  cases_walk family count (plus index 1) (with_meaning declared case.name (meanings.Case family count index)) more

-- an enum: its name, then its cases
abbrev pub enum_walk : ℕ → ℕ → List ℕ → Table Meaning → List NameTree → Checked (Table Meaning)
enum_walk family at name declared cases = do
  name_free declared at name
  all ← cases_walk family (capped (length cases)) 0
      (with_meaning declared name (meanings.Type (ty.Enum family (capped (length cases))))) cases
  rule (nat_le (length cases) 4096) (TooManyValues at)
  Ok all

-- a name for a type
abbrev pub alias_walk : ℕ → List ℕ → Table Meaning → TyTree → Checked (Table Meaning)
alias_walk at name declared written = do
  name_free declared at name
  t ← type_walk written declared
  Ok (with_meaning declared name (meanings.Type t))

-- ---- functions

-- the names that a function's body sees
abbrev pub body_names : Table Meaning → Table Variable → Names
body_names declared variables =
    record { declared = declared; given = []; variables = variables; hidden = []; stand = Anywhere }

-- The body's type goes as the written one; the greatest depth in it.
abbrev pub body_walk : ExprTree → Ty → Names → Checked ℕ
body_walk body answer names = do
  found ← whole_walk body names
  rule (fits found.ty answer) (WrongType (expr_place body))
  Ok found.deep

-- what is kept of a function with these parameters, this type, and a body of this height
abbrev pub function_of : ℕ → List Ty → Ty → ℕ → ExprTree → Names → Function
function_of number params answer height body names = record {
  number = number;
  params = params;
  answer = answer;
  height = height;
  own = own_nodes body names;
  uses = uses_in body names 1 (replicate (length params) 0);
  gives = variable_in body names;
}

-- what is kept of a function with these parameters and this type
abbrev pub function_with : ℕ → List Ty → Ty → ExprTree → Names → Checked Function
function_with number params answer body names = do
  height ← body_walk body answer names
  Ok (function_of number params answer height body names)

-- the parameters, the written type, and the body
abbrev pub function_walk : ℕ → List ℕ → Table Meaning → List ParamTree → TyTree → ExprTree → Checked Function
function_walk number name declared params written body = do
  found ← params_walk (record { declared = declared; own = name; given = [] }) Input
      (record { variables = []; types = [] }) params
  answer ← type_walk written declared
  function_with number found.types answer body (body_names declared found.variables)

abbrev pub function_declared : ℕ → ℕ → List ℕ → Table Meaning → List ParamTree → TyTree → ExprTree → Checked (Table Meaning)
function_declared number at name declared params written body = do
  name_free declared at name
  function ← function_walk number name declared params written body
  Ok (with_meaning declared name (meanings.Function function))
