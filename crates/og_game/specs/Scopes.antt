-- The variables that expressions of a game see.
use Rattle.std.specs.Prelude.{ℕ, ◌+◌, nat_lt, Bool, true, false, ◌&&◌, List, [], ◌∷◌, ◌++◌, map, Option, Some, None, slice_get}
use Rattle.og_types.specs.declared.ty.Ty.{Ty}
use Rattle.og_types.specs.Ty.{same}
use Rattle.og_expr.specs.declared.node.Term.{Term}
use Rattle.og_expr.specs.Types.{type_of, goes_as}
use Rattle.og_expr.specs.Variables.{all_variables}
use Rattle.og_native.specs.declared.ports.Ports.{Ports}
use Rattle.og_native.specs.Ports.{is_wire}
use Rattle.og_game.specs.declared.node.Typed.{Typed}
use Rattle.og_game.specs.declared.node.BlockOf.{BlockOf}
use Rattle.og_game.specs.declared.node.LineOf.{LineOf}
use Rattle.og_game.specs.declared.scope.Origin.{Origin}
use Rattle.og_game.specs.declared.scope.Origin.TheVariants.{Input, Feedback, Output, Return}
use Rattle.og_game.specs.declared.scope.Variable.{Variable}
use Rattle.og_game.specs.declared.scope.Stand.{Stand}
use Rattle.og_game.specs.declared.scope.Stand.TheVariants.{Before, Behind, Anywhere}

-- Which variables an expression sees, with which types.
abbrev pub Scope : Type 0
Scope = ℕ → Ty → Bool

-- Each variable is seen, and the type goes as the other.
abbrev pub goes_in : Scope → Term → Ty → Bool
goes_in scope e t = all_variables scope e && goes_as t (type_of e)

-- It goes as its written type, which a wire may have.
abbrev pub is_result : Scope → Typed → Bool
is_result scope r = is_wire r.ty && goes_in scope r.expr r.ty

abbrev pub is_of : Option Ty → Ty → Bool
is_of None t = false
is_of (Some u) t = same u t

-- the parameters, numbered from 0
abbrev pub of_params : List Ty → Scope
of_params params number t = is_of (slice_get params number) t

-- ---- the variables of a block

abbrev pub from : Origin → Ty → Variable
from origin t = record { ty = t; origin = origin }

-- those of the line with the number, by its operation's ports
abbrev pub line_variables : ℕ → Option Ports → List Variable
line_variables k None = []
line_variables k (Some p) = map (from (Feedback k)) p.feedback ++ map (from (Output k)) p.outputs

-- those of lines, of which the first has the number
abbrev pub lines_variables : ℕ → List (LineOf (Option Ports)) → List Variable
lines_variables k [] = []
lines_variables k (line ∷ lines) = line_variables k line.operation ++ lines_variables (k + 1) lines

-- in the order of their numbers, from 0
abbrev pub block_variables : BlockOf (Option Ports) → List Variable
block_variables block =
    map (from Input) block.inputs ++ (lines_variables 0 block.lines ++ map (from Return) block.returns)

-- Forwards, before the line with the number, the inputs are seen and what came out of earlier lines.
abbrev pub is_before : ℕ → Origin → Bool
is_before k Input = true
is_before k (Output j) = nat_lt j k
is_before k _ = false

-- Backwards, behind the line with the number, all is seen but the feedback of the same and of earlier lines.
abbrev pub is_behind : ℕ → Origin → Bool
is_behind k (Feedback j) = nat_lt k j
is_behind k _ = true

abbrev pub is_anywhere : Origin → Bool
is_anywhere origin = true

abbrev pub is_seen : (Origin → Bool) → Option Variable → Ty → Bool
is_seen from_where None t = false
is_seen from_where (Some v) t = from_where v.origin && same v.ty t

-- where an expression stands in a block
abbrev pub whence : Stand → Origin → Bool
whence (Before k) = is_before k
whence (Behind k) = is_behind k
whence Anywhere = is_anywhere

-- those of the variables that come from there
abbrev pub seen : List Variable → (Origin → Bool) → Scope
seen variables from_where number t = is_seen from_where (slice_get variables number) t
