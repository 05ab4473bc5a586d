-- What names stand for where an expression is wanted.
use Rattle.std.specs.Borrow.{Bor}
use Rattle.std.specs.Prelude.{◌≡◌, ℕ, ◌+◌, ◌-◌, ◌==◌, nat_le, not, List, length, Option, Some, None, Result, Ok, Err}
use Rattle.og_types.specs.declared.ty.Ty.{Ty}
use Rattle.og_types.specs.declared.ty.Ty.TheVariants as ty
use Rattle.og_game.specs.declared.scope.Variable.{Variable}
use Rattle.og_game.specs.declared.scope.Stand.{Stand}
use Rattle.og_game.specs.Scopes.{whence}
use Rattle.og_names.specs.Names.{lookup, has_name}
use Rattle.og_typing.specs.declared.fault.WireFault.{WireFault}
use Rattle.og_typing.specs.declared.fault.WireFault.TheVariants.{Unknown, WrongType, WrongCount, BackwardInForward, FeedbackTooEarly, TooBig}
use Rattle.og_typing.specs.declared.meaning.Meaning.{Meaning}
use Rattle.og_typing.specs.declared.meaning.Meaning.TheVariants as meanings
use Rattle.og_typing.specs.declared.meaning.Function.{Function}
use Rattle.og_typing.specs.declared.meaning.Given.{Given}
use Rattle.og_typing.specs.declared.meaning.Given.TheVariants as given
use Rattle.og_typing.specs.declared.meaning.Scope.{Scope}
use Rattle.og_typing.specs.Checked.{Checked, ◌>>◌, rule}
use Rattle.og_typing.specs.Types.{Table}

-- the names that an expression sees
pub record Names : Type 0 where
  pub declared : Table Meaning
  pub given : Table Given
  pub variables : Table Variable
  pub hidden : Table (Unit {0})
  pub stand : Stand

abbrev pub names_of : Scope → Names
names_of scope = record {
  declared = scope.declared.now;
  given = scope.given.now;
  variables = scope.variables.now;
  hidden = scope.hidden.now;
  stand = scope.stand;
}

-- what a name stands for as an expression: a variable, a parameter of the game, or a case
abbrev pub named_as : ℕ → Stand → Option Variable → Option Given → Option Meaning → Checked Ty
named_as at stand (Some v) parameter meaning = do
  rule (whence stand v.origin) (FeedbackTooEarly at)
  Ok v.ty
named_as at stand None (Some given.Agent) meaning = Err (WrongType at)
named_as at stand None (Some (given.Value t)) meaning = Ok t
named_as at stand None None (Some (meanings.Case family cases index)) = Ok (ty.Enum family cases)
named_as at stand None None (Some _) = Err (Unknown at)
named_as at stand None None None = Err (Unknown at)

-- A name that comes backwards is refused forwards before anything is looked up.
abbrev pub name_walk : ℕ → List ℕ → Names → Checked Ty
name_walk at name names = do
  rule (not (has_name name names.hidden)) (BackwardInForward at)
  named_as at names.stand (lookup name names.variables) (lookup name names.given) (lookup name names.declared)

-- the function that a name stands for
abbrev pub function_named : ℕ → Option Meaning → Checked Function
function_named at (Some (meanings.Function f)) = Ok f
function_named at (Some _) = Err (Unknown at)
function_named at None = Err (Unknown at)

abbrev pub Calls : Checked Function → Result (Bor Function) WireFault → Type 0
Calls walk (Ok f) = walk ≡ Ok f.now
Calls walk (Err fault) = walk ≡ Err fault

-- the depth at which the arguments of a call stand
abbrev pub call_depth : ℕ → ℕ → Function → ℕ → Checked ℕ
call_depth at depth f count = do
  rule (nat_le (depth + f.height) 49) (TooBig at)
  rule (count == length f.params) (WrongCount at)
  Ok (depth + f.height - 1)
