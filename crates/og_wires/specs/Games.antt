-- Written games: the ports of each, with how large it is, or the first rule that it breaks. `game_rule` is the rule for one
-- form, whose parts are walks already; parts are walked from left to right.
use Rattle.std.specs.Prelude.{ℕ, ◌+◌, ◌==◌, nat_le, nat_lt, true, false, Bool, ◌&&◌, List, [], ◌∷◌, ◌++◌, length, replicate, Option, Some, None, Ok, Err, slice_get}
use Rattle.og_types.specs.declared.ty.Ty.{Ty}
use Rattle.og_native.specs.declared.ports.Ports.{Ports}
use Rattle.og_native.specs.Ports.{same_types, same_ports}
use Rattle.og_game.specs.declared.scope.Variable.{Variable}
use Rattle.og_game.specs.declared.scope.Origin.TheVariants.{Input, Feedback, Output, Return}
use Rattle.og_game.specs.declared.scope.Stand.TheVariants.{Before, Behind, Anywhere}
use Rattle.og_game.specs.Wired.{values, through, beside, selected, have_few}
use Rattle.og_syntax.specs.declared.types.TyTree.{TyTree}
use Rattle.og_syntax.specs.declared.types.NameTree.{NameTree}
use Rattle.og_syntax.specs.declared.expressions.ResultTree.{ResultTree}
use Rattle.og_syntax.specs.declared.expressions.ExprTree.{ExprTree}
use Rattle.og_syntax.specs.declared.games.GameTree.{GameTree}
use Rattle.og_syntax.specs.declared.games.GameTree.TheOpen.{GameTree-F}
use Rattle.og_syntax.specs.declared.games.GameTree.TheOpen as forms
use Rattle.og_syntax.specs.declared.games.GameTree.TheViews.{out-GameTree}
use Rattle.og_syntax.specs.declared.games.GameTree.TheFolds.{fold-GameTree}
use Rattle.og_syntax.specs.declared.games.BlockTree.{BlockTree}
use Rattle.og_syntax.specs.declared.games.LineTree.{LineTree}
use Rattle.og_syntax.specs.declared.games.ArmTree.{ArmTree}
use Rattle.og_typing.specs.declared.fault.WireFault.TheVariants.{WrongType, WrongCount, MissingRow, TooBig}
use Rattle.og_typing.specs.Checked.{Checked, ◌>>=◌, ◌>>◌, rule, in_turn}
use Rattle.og_typing.specs.Types.{Table}
use Rattle.og_typing.specs.Values.{row_taken, all_taken}
use Rattle.og_typing.specs.Scopes.{Names}
use Rattle.og_typing.specs.Variables.{params_walk}
use Rattle.og_wires.specs.declared.kind.Level.{Level}
use Rattle.og_wires.specs.declared.kind.Size.{Size}
use Rattle.og_wires.specs.declared.kind.GameKind.{GameKind}
use Rattle.og_wires.specs.declared.wires.Handed.{Handed}
use Rattle.og_wires.specs.declared.wires.Results.{Results}
use Rattle.og_wires.specs.declared.block.Lines.{Lines}
use Rattle.og_wires.specs.declared.block.Forwards.{Forwards}
use Rattle.og_wires.specs.declared.block.Start.{Start}
use Rattle.og_wires.specs.declared.branch.Arms.{Arms}
use Rattle.og_wires.specs.declared.branch.Selected.{Selected}
use Rattle.og_wires.specs.Sites.{Site, below, inside, alone, with_part, with_lines}
use Rattle.og_wires.specs.Levels.{form_with, place_rule}
use Rattle.og_wires.specs.Rows.{finite_walk, rank_walk}
use Rattle.og_wires.specs.Wires.{names_at, backward_names, names_walk, handed_walk, takes, results_walk}
use Rattle.og_wires.specs.Atoms.{game_kind, no_params, call_walk, decision_walk, nature_walk, forward_walk, backward_walk, identity_walk, library_walk}

-- a game in a form: where it begins, and its walk where it stands
pub record Part : Type 0 where
  pub at : ℕ
  pub walk : Site → Level → Checked GameKind

-- ---- compositions

abbrev pub both_sizes : Level → Size → Size → Size
both_sizes level left right = with_part (with_part (alone level) left) right

-- What goes out of the left on both sides is as much as goes into the right, and of the same types.
abbrev pub meet : ℕ → Ports → Ports → Checked (Unit {0})
meet at left right = do
  rule ((length left.outputs == length right.inputs) && (length left.returns == length right.feedback)) (WrongCount at)
  rule (same_types left.outputs right.inputs && same_types left.returns right.feedback) (WrongType at)

-- one game after another, which meet
abbrev pub seq_kind : ℕ → Level → GameKind → GameKind → Checked GameKind
seq_kind at level left right = do
  meet at left.ports right.ports
  Ok (game_kind (through left.ports right.ports) (both_sizes level left.size right.size))

abbrev pub seq_walk : Site → Level → Part → Part → Checked GameKind
seq_walk site level left right = do
  l ← left.walk site (below level)
  r ← right.walk site (below level)
  seq_kind right.at level l r

-- one game beside another
abbrev pub par_kind : Level → GameKind → GameKind → GameKind
par_kind level left right = game_kind (beside left.ports right.ports) (both_sizes level left.size right.size)

abbrev pub par_walk : Site → Level → Part → Part → Checked GameKind
par_walk site level left right = do
  l ← left.walk site (below level)
  r ← right.walk site (below level)
  Ok (par_kind level l r)

-- ---- blocks, the first pass

-- the names that are seen forwards before the line with the number
abbrev pub forwards : Site → Table (Unit {0}) → Table Variable → ℕ → Names
forwards site hidden variables k = names_at site.around variables hidden (Before k)

-- what is handed to the operation of the line with the number
abbrev pub inputs_handed : Site → Table (Unit {0}) → ℕ → Lines → List ExprTree → Checked Handed
inputs_handed site hidden k before inputs = handed_walk (forwards site hidden before.variables k) before.size inputs

-- the names of what goes back from an operation with these ports, and of what comes out of it
abbrev pub named_ports : Site → ℕ → ℕ → Ports → Table Variable → List NameTree → List NameTree → Checked (Table Variable)
named_ports site at k ports variables feedback outputs = do
  back ← names_walk site.around at (Feedback k) ports.feedback variables feedback
  names_walk site.around at (Output k) ports.outputs back outputs

-- with one line more: its operation takes what is handed over, and gives what has names
abbrev pub line_named : Site → ℕ → Lines → Handed → GameKind → LineTree Part → Checked Lines
line_named site k before handed found line = do
  takes line.operation.at found.ports.inputs handed.items
  variables ← named_ports site line.operation.at k found.ports before.variables line.feedback line.outputs
  Ok (record {
    variables = variables;
    returns = before.returns ++ found.ports.returns ∷ [];
    size = with_part handed.size found.size;
  })

-- a line with its number: what it hands over, its operation, what this takes, and the names of what it gives
abbrev pub line_walk : Site → Level → Table (Unit {0}) → ℕ → Lines → LineTree Part → Checked Lines
line_walk site level hidden k before line = do
  handed ← inputs_handed site hidden k before line.inputs
  found ← line.operation.walk site (below level)
  line_named site k before handed found line

-- lines from the number on
abbrev pub lines_walk : Site → Level → Table (Unit {0}) → ℕ → Lines → List (LineTree Part) → Checked Lines
lines_walk site level hidden k before [] = Ok before
lines_walk site level hidden k before (line ∷ lines) = do
  next ← line_walk site level hidden k before line
  lines_walk site level hidden (k + 1) next lines

-- ---- blocks, the second pass

-- An operation that wants that takes what is handed back.
abbrev pub takes_there : ℕ → Option (List Ty) → Handed → Checked (Unit {0})
takes_there at None handed = Err (WrongCount at)
takes_there at (Some wanted) handed = takes at wanted handed.items

-- what is handed back to the operation of the line with the number
abbrev pub line_back : Site → Table Variable → Option (List Ty) → ℕ → Size → LineTree Part → Checked Size
line_back site variables wanted k size line = do
  handed ← handed_walk (names_at site.around variables [] (Behind k)) size line.returns
  takes_there line.operation.at wanted handed
  Ok handed.size

-- to those of the lines from the number on
abbrev pub lines_back : Site → Table Variable → List (List Ty) → ℕ → Size → List (LineTree Part) → Checked Size
lines_back site variables wanted k size [] = Ok size
lines_back site variables wanted k size (line ∷ lines) = do
  next ← line_back site variables (slice_get wanted k) k size line
  lines_back site variables wanted (k + 1) next lines

-- ---- blocks

-- the outputs of a block with these lines
abbrev pub outputs_made : Site → Table (Unit {0}) → Lines → BlockTree Part → Checked Results
outputs_made site hidden lines block =
    results_walk true (forwards site hidden lines.variables (length lines.returns)) lines.size block.outputs

-- what goes back from a block
abbrev pub feedback_made : Site → Table Variable → Size → List (ResultTree ExprTree) → Checked Results
feedback_made site variables size feedback = results_walk true (names_at site.around variables [] Anywhere) size feedback

-- the returns of a block with inputs of these types, these lines and these outputs
abbrev pub returns_made : Site → List Ty → Lines → Results → BlockTree Part → Checked Forwards
returns_made site inputs lines made block = do
  back ← params_walk site.around Return (record { variables = lines.variables; types = [] }) block.returns
  Ok (record { inputs = inputs; wanted = lines.returns; outputs = made.types; back = back; size = made.size })

-- behind the lines: the outputs, then the returns
abbrev pub outer_pass : Site → Table (Unit {0}) → List Ty → Lines → BlockTree Part → Checked Forwards
outer_pass site hidden inputs lines block = do
  made ← outputs_made site hidden lines block
  returns_made site inputs lines made block

-- what goes back from the block, and what is handed back to each line
abbrev pub second_pass : Site → Forwards → BlockTree Part → Checked GameKind
second_pass site found block = do
  made ← feedback_made site found.back.variables found.size block.feedback
  size ← lines_back site found.back.variables found.wanted 0 made.size block.lines
  Ok (game_kind
      (record { inputs = found.inputs; feedback = made.types; outputs = found.outputs; returns = found.back.types }) size)

-- behind the lines, and the second pass
abbrev pub block_rest : Site → Table (Unit {0}) → List Ty → Lines → BlockTree Part → Checked GameKind
block_rest site hidden inputs lines block = do
  found ← outer_pass site hidden inputs lines block
  second_pass site found block

-- before the lines: the inputs, and the names that come backwards
abbrev pub block_start : Site → Level → BlockTree Part → Checked Start
block_start site level block = do
  outer ← params_walk site.around Input no_params block.inputs
  Ok (record {
    hidden = backward_names block.lines block.returns;
    inputs = outer.types;
    lines = record { variables = outer.variables; returns = []; size = alone level };
  })

-- the inputs, the lines, the outputs and the returns; then what goes back, and what is handed back to each line
abbrev pub block_walk : Site → Level → BlockTree Part → Checked GameKind
block_walk site level block = do
  start ← block_start site level block
  lines ← lines_walk site level start.hidden 0 start.lines block.lines
  block_rest site start.hidden start.inputs lines block

-- ---- branches

abbrev pub same_counts : Ports → Ports → Bool
same_counts p q =
    ((length p.inputs == length q.inputs) && (length p.feedback == length q.feedback))
    && ((length p.outputs == length q.outputs) && (length p.returns == length q.returns))

-- An arm has the ports of the first one; these are given.
abbrev pub agree : ℕ → Option Ports → Ports → Checked Ports
agree at None ports = Ok ports
agree at (Some first) ports = do
  rule (same_counts first ports) (WrongCount at)
  rule (same_ports first ports) (WrongType at)
  Ok first

-- with one arm more, whose game begins at the place
abbrev pub with_arm : ℕ → Arms → GameKind → Checked Arms
with_arm at before found = do
  ports ← agree at before.ports found.ports
  Ok (record { taken = before.taken; ports = Some ports; size = with_lines 1 0 (with_part before.size found.size) })

-- a key, which is new
abbrev pub key_taken : Site → Ty → Arms → ArmTree Part → Checked Arms
key_taken site selector before arm = do
  rank ← rank_walk site.around.declared selector arm.key
  taken ← row_taken arm.at before.taken rank
  Ok (record { taken = taken; ports = before.ports; size = before.size })

-- an arm: its key, then its game
abbrev pub arm_walk : Site → Level → Ty → Arms → ArmTree Part → Checked Arms
arm_walk site level selector before arm = do
  keyed ← key_taken site selector before arm
  found ← arm.game.walk site (inside level)
  with_arm arm.game.at keyed found

abbrev pub first_ports : ℕ → Option Ports → Checked Ports
first_ports at None = Err (MissingRow at)
first_ports at (Some ports) = Ok ports

-- There is an arm for each value, and no side has too many types.
abbrev pub arms_end : ℕ → Ty → Arms → Checked GameKind
arms_end at selector found = do
  all_taken at found.taken
  ports ← first_ports at found.ports
  rule (have_few (selected selector ports)) (TooBig at)
  Ok (game_kind (selected selector ports) found.size)

-- There may be fifteen branches round a branch, and no more.
abbrev pub selector_walk : Site → Level → ℕ → TyTree → Checked Selected
selector_walk site level at selector = do
  rule (nat_lt level.inside 16) (TooBig at)
  t ← finite_walk site.around.declared selector
  Ok (record {
    selector = t;
    start = record { taken = replicate (values t) false; ports = None; size = with_lines 1 0 (alone level) };
  })

-- the selector's type, then an arm for each of its values
abbrev pub branch_walk : Site → Level → ℕ → TyTree → List (ArmTree Part) → Checked GameKind
branch_walk site level at selector arms = do
  selected ← selector_walk site level at selector
  found ← in_turn (arm_walk site level selected.selector) selected.start arms
  arms_end at selected.selector found

-- ---- the table of rules

unfoldable pub game_rule : GameTree-F Part → Site → Level → Checked GameKind
game_rule (forms.Call at name args) site level = call_walk site level at name args
game_rule (forms.Seq left right) site level = seq_walk site level left right
game_rule (forms.Par left right) site level = par_walk site level left right
game_rule (forms.Block at block) site level = block_walk site level block
game_rule (forms.Decision at agent observes action among) site level = decision_walk site level at agent observes action among
game_rule (forms.Nature at observes outcome rows) site level = nature_walk site level at observes outcome rows
game_rule (forms.Forward at params results) site level = forward_walk site level params results
game_rule (forms.Backward at params results) site level = backward_walk site level params results
game_rule (forms.Identity at forward backward) site level = identity_walk site level forward backward
game_rule (forms.Library at name) site level = library_walk site level name
game_rule (forms.Branch at selector arms) site level = branch_walk site level at selector arms

-- where the form begins, by where its parts begin
abbrev pub form_place : GameTree-F Part → ℕ
form_place form = place_rule (form_with (λ part. part.at) form)

-- No game is deeper than 48.
abbrev pub form_walk : GameTree-F Part → Site → Level → Checked GameKind
form_walk form site level = do
  rule (nat_le level.depth 48) (TooBig (form_place form))
  game_rule form site level

abbrev pub part_of : GameTree → Part
part_of = fold-GameTree Part (λ form. record { at = form_place form; walk = form_walk form })

-- where a game begins
abbrev pub game_place : GameTree → ℕ
game_place g = (part_of g).at

-- the walk of a game where it stands
abbrev pub game_walk : GameTree → Site → Level → Checked GameKind
game_walk g = (part_of g).walk

-- its walk without the rule on depth
abbrev pub rule_walk : GameTree → Site → Level → Checked GameKind
rule_walk g = game_rule (form_with part_of (out-GameTree g))
