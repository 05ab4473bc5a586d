-- Places in written programs: the game expression at a place, and the ports that the wiring gives it.
use Rattle.std.specs.Prelude.{ℕ, ◌+◌, ◌-◌, ◌==◌, if◌then◌else◌, List, [], ◌∷◌, take, Option, Some, None, option_map, option_and_then, slice_get}
use Rattle.og_native.specs.declared.ports.Ports.{Ports}
use Rattle.og_names.specs.Names.{same_name}
use Rattle.og_syntax.specs.declared.games.GameTree.{GameTree}
use Rattle.og_syntax.specs.declared.games.GameTree.TheOpen.{GameTree-F}
use Rattle.og_syntax.specs.declared.games.GameTree.TheOpen as forms
use Rattle.og_syntax.specs.declared.games.GameTree.TheViews.{out-GameTree}
use Rattle.og_syntax.specs.declared.games.LineTree.{LineTree}
use Rattle.og_syntax.specs.declared.declarations.Decl.{Decl}
use Rattle.og_syntax.specs.declared.declarations.Decl.TheVariants as decls
use Rattle.og_syntax.specs.declared.declarations.GameParam.{GameParam}
use Rattle.og_syntax.specs.declared.declarations.Program.{Program}
use Rattle.og_typing.specs.Checked.{Checked}
use Rattle.og_wires.specs.declared.kind.GameKind.{GameKind}
use Rattle.og_wires.specs.Sites.{Blocks}
use Rattle.og_places.specs.declared.places.Step.{Step}
use Rattle.og_places.specs.declared.places.Step.TheVariants as steps
use Rattle.og_places.specs.declared.places.Place.{Place}
use Rattle.og_places.specs.Expressions.{level_at, expression_walk, given_by}

-- one and then the next, where both are there
infixl 10 ◌>>=◌
abbrev pub ◌>>=◌ : {A B : Type 0} → Option A → (A → Option B) → Option B
o >>= f = option_and_then f o

-- ---- the way from a game expression to one in it

-- one of two parts
abbrev pub side_at : GameTree → GameTree → Step → Option GameTree
side_at left right steps.Left = Some left
side_at left right steps.Right = Some right
side_at left right (steps.Line k) = None

-- the operation of the line at the position, from 1
abbrev pub operation_at : List (LineTree GameTree) → ℕ → Option GameTree
operation_at lines k = if k == 0 then None else option_map (λ line. line.operation) (slice_get lines (k - 1))

-- the operation of a line
abbrev pub line_at : List (LineTree GameTree) → Step → Option GameTree
line_at lines (steps.Line k) = operation_at lines k
line_at lines steps.Left = None
line_at lines steps.Right = None

-- the part of a form to which the step leads; games of all other forms have no parts to step to
abbrev pub part_of_form : GameTree-F GameTree → Step → Option GameTree
part_of_form (forms.Seq left right) step = side_at left right step
part_of_form (forms.Par left right) step = side_at left right step
part_of_form (forms.Block at block) step = line_at block.lines step
part_of_form _ step = None

abbrev pub part_at : GameTree → Step → Option GameTree
part_at g step = part_of_form (out-GameTree g) step

-- where the steps lead, one after another
abbrev pub subtree : List Step → GameTree → Option GameTree
subtree [] g = Some g
subtree (step ∷ more) g = part_at g step >>= subtree more

-- ---- the game with a name

-- a declared game: how many declarations stand before it, its parameters, and its body
pub record Declared : Type 0 where
  pub number : ℕ
  pub params : List GameParam
  pub body : GameTree

-- the first game with the name, where the declarations are counted from the number
abbrev pub game_from : ℕ → List ℕ → List Decl → Option Declared
game_from number name [] = None
game_from number name (decls.Game at other params body ∷ more) =
    if same_name other name
    then Some (record { number = number; params = params; body = body })
    else game_from (number + 1) name more
game_from number name (decls.Enum at other cases ∷ more) = game_from (number + 1) name more
game_from number name (decls.Alias at other t ∷ more) = game_from (number + 1) name more
game_from number name (decls.Fn at other params answer body ∷ more) = game_from (number + 1) name more

abbrev pub game_named : List ℕ → List Decl → Option Declared
game_named name decls = game_from 0 name decls

-- ---- what is at a place

-- the game expression at the place, if there is one
abbrev pub expression_at : Program → Place → Option GameTree
expression_at p place = do
  game ← game_named place.game p.decls
  subtree place.steps game.body

-- the ports that a walk finds, where no rule is broken
abbrev pub ports_given : Checked GameKind → Option Ports
ports_given walk = option_map (λ kind. kind.ports) (given_by walk)

-- the ports of the game expression at the place in the game
abbrev pub ports_within : Blocks → List Decl → Place → Declared → Option Ports
ports_within blocks decls place game = do
  expression ← subtree place.steps game.body
  ports_given (expression_walk blocks (take game.number decls) place.game game.params (level_at place.steps) expression)

-- the ports of the game expression at the place in the game with the place's name
abbrev pub ports_named : Blocks → List Decl → Place → Option Ports
ports_named blocks decls place = game_named place.game decls >>= ports_within blocks decls place

-- the ports that the wiring gives the game expression at the place
abbrev pub ports_there : Blocks → Program → Place → Option Ports
ports_there blocks p place = ports_named blocks p.decls place
