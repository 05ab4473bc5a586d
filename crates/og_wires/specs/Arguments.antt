-- Arguments of games: an agent, or a value of a type.
use Rattle.std.specs.Prelude.{ℕ, ◌+◌, List, [], ◌∷◌, Option, Some, None, Ok, Err, slice_get}
use Rattle.og_types.specs.Ty.{fits}
use Rattle.og_syntax.specs.declared.games.ArgTree.{ArgTree}
use Rattle.og_syntax.specs.declared.games.ArgTree.TheVariants as args
use Rattle.og_syntax.specs.declared.values.ValueTree.{ValueTree}
use Rattle.og_syntax.specs.declared.values.ValueTree.TheOpen.{ValueTree-F}
use Rattle.og_syntax.specs.declared.values.ValueTree.TheOpen as values
use Rattle.og_syntax.specs.declared.values.ValueTree.TheViews.{out-ValueTree}
use Rattle.og_names.specs.Names.{lookup}
use Rattle.og_typing.specs.declared.fault.WireFault.TheVariants.{Unknown, WrongType}
use Rattle.og_typing.specs.declared.meaning.Given.{Given}
use Rattle.og_typing.specs.declared.meaning.Given.TheVariants as given
use Rattle.og_typing.specs.declared.meaning.Meaning.{Meaning}
use Rattle.og_typing.specs.Checked.{Checked, ◌>>◌, rule}
use Rattle.og_typing.specs.Types.{Table}
use Rattle.og_typing.specs.Values.{value_place, meant, value_walk}

-- Something goes where a parameter stands for the first.
abbrev pub given_goes : ℕ → Given → Given → Checked (Unit {0})
given_goes at given.Agent given.Agent = Ok tt
given_goes at (given.Value wanted) (given.Value t) = rule (fits t wanted) (WrongType at)
given_goes at _ _ = Err (WrongType at)

-- A value goes where a parameter stands for values of its type.
abbrev pub value_goes : Table Meaning → Given → ValueTree → Checked (Unit {0})
value_goes declared given.Agent v = do
  meant v declared
  Err (WrongType (value_place v))
value_goes declared (given.Value wanted) v = do
  value_walk declared wanted v
  Ok tt

-- what the name stands for among the parameters round a call, where the value is a name
abbrev pub param_in : Table Given → ValueTree-F ValueTree → Option Given
param_in params (values.Name at name) = lookup name params
param_in params _ = None

-- a value, or the parameter that it is
abbrev pub value_or_param : Table Meaning → Given → ValueTree → Option Given → Checked (Unit {0})
value_or_param declared wanted v (Some found) = given_goes (value_place v) wanted found
value_or_param declared wanted v None = value_goes declared wanted v

-- a parameter whose name no value has
abbrev pub param_goes : ℕ → Given → Option Given → Checked (Unit {0})
param_goes at wanted (Some found) = given_goes at wanted found
param_goes at wanted None = Err (Unknown at)

-- The argument goes where a parameter stands for that.
abbrev pub argument_walk : Table Meaning → Table Given → Given → ArgTree → Checked (Unit {0})
argument_walk declared params wanted (args.Quoted at name) = given_goes at wanted given.Agent
argument_walk declared params wanted (args.Var at name) = param_goes at wanted (lookup name params)
argument_walk declared params wanted (args.Val v) = value_or_param declared wanted v (param_in params (out-ValueTree v))

-- where an argument begins
abbrev pub argument_place : ArgTree → ℕ
argument_place (args.Quoted at name) = at
argument_place (args.Var at name) = at
argument_place (args.Val v) = value_place v

-- The argument goes where the parameter that is there stands for it.
abbrev pub argument_there : Table Meaning → Table Given → Option Given → ArgTree → Checked (Unit {0})
argument_there declared params None arg = Err (WrongType (argument_place arg))
argument_there declared params (Some wanted) arg = argument_walk declared params wanted arg

-- The arguments go as the parameters from the place on.
abbrev pub arguments_walk : Table Meaning → Table Given → List Given → ℕ → List ArgTree → Checked (Unit {0})
arguments_walk declared params wanted i [] = Ok tt
arguments_walk declared params wanted i (arg ∷ more) = do
  argument_there declared params (slice_get wanted i) arg
  arguments_walk declared params wanted (i + 1) more
