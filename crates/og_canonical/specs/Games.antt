-- The canonical text of games. A composition by `>>>` has level 1, one by `&&&` level 2, all else 3; both group to
-- the left, so the right part of each asks for one level more than its own.
--
-- `game_step` is the rule for one form, whose parts have their levels and texts already.
use Rattle.std.specs.Prelude.{ℕ, List, [], ◌++◌, map, flat_map, Option, Some, None}
use Rattle.og_lex.specs.declared.token.Word.{Word}
use Rattle.og_lex.specs.declared.token.Word.TheVariants as words
use Rattle.og_lex.specs.declared.token.Mark.TheVariants as marks
use Rattle.og_syntax.specs.declared.values.RowTree.{RowTree}
use Rattle.og_syntax.specs.declared.types.NameTree.{NameTree}
use Rattle.og_syntax.specs.declared.types.ParamTree.{ParamTree}
use Rattle.og_syntax.specs.declared.types.TyTree.{TyTree}
use Rattle.og_syntax.specs.declared.expressions.ExprTree.{ExprTree}
use Rattle.og_syntax.specs.declared.expressions.ResultTree.{ResultTree}
use Rattle.og_syntax.specs.declared.games.AgentTree.{AgentTree}
use Rattle.og_syntax.specs.declared.games.AgentTree.TheVariants as agents
use Rattle.og_syntax.specs.declared.games.ArgTree.{ArgTree}
use Rattle.og_syntax.specs.declared.games.ArgTree.TheVariants as args
use Rattle.og_syntax.specs.declared.games.Among.{Among}
use Rattle.og_syntax.specs.declared.games.AmongTree.{AmongTree}
use Rattle.og_syntax.specs.declared.games.ArmTree.{ArmTree}
use Rattle.og_syntax.specs.declared.games.BlockTree.{BlockTree}
use Rattle.og_syntax.specs.declared.games.LineTree.{LineTree}
use Rattle.og_syntax.specs.declared.games.GameTree.{GameTree}
use Rattle.og_syntax.specs.declared.games.GameTree.TheOpen.{GameTree-F}
use Rattle.og_syntax.specs.declared.games.GameTree.TheOpen as game_level
use Rattle.og_syntax.specs.declared.games.GameTree.TheFolds.{fold-GameTree}
use Rattle.og_canonical.specs.Tokens.{spaced, mark, word, separator, quoted, in_parens, in_braces, optional}
use Rattle.og_canonical.specs.Values.{value_text, values_text, key_text, row_text}
use Rattle.og_canonical.specs.Types.{ty_text, tys_text, params_text, names_text}
use Rattle.og_canonical.specs.Expressions.{Shown, at_least, anywhere, exprs_text, results_text}

-- a field of a block or of a line, also an empty one
abbrev pub field : Word → List ℕ → List ℕ
field w text = word w ++ mark marks.Colon ++ text ++ mark marks.Semicolon

unfoldable pub agent_text : AgentTree → List ℕ
agent_text (agents.Quoted at name) = quoted name
agent_text (agents.Var at name) = spaced name

unfoldable pub arg_text : ArgTree → List ℕ
arg_text (args.Quoted at name) = quoted name
arg_text (args.Var at name) = spaced name
arg_text (args.Val v) = value_text v

-- the actions that are allowed at one observation
unfoldable pub allowed_text : AmongTree → List ℕ
allowed_text row = key_text row.key ++ mark marks.Arrow ++ values_text row.actions ++ mark marks.Semicolon

unfoldable pub among_text : Option Among → List ℕ
among_text None = []
among_text (Some among) = word words.Among ++ in_braces (flat_map allowed_text among.rows)

-- ---- lines, blocks and branches, where `text` gives what stands for a game in them

-- what a line has before its game, and what it has behind it
unfoldable pub line_front : List ExprTree → List NameTree → List ℕ
line_front inputs feedback = field words.Inputs (exprs_text inputs) ++ field words.Feedback (names_text feedback)

unfoldable pub line_back : List NameTree → List ExprTree → List ℕ
line_back outputs returns = field words.Outputs (names_text outputs) ++ field words.Returns (exprs_text returns)

abbrev pub line_text : {G : Type 0} → (G → List ℕ) → LineTree G → List ℕ
line_text text line =
    line_front line.inputs line.feedback ++ field words.Operation (text line.operation)
    ++ line_back line.outputs line.returns

-- what a block has before its lines, and what it has behind them
unfoldable pub block_front : List ParamTree → List (ResultTree ExprTree) → List ℕ
block_front inputs feedback =
    field words.Inputs (params_text inputs) ++ field words.Feedback (results_text feedback) ++ separator

unfoldable pub block_back : List (ResultTree ExprTree) → List ParamTree → List ℕ
block_back outputs returns =
    separator ++ field words.Outputs (results_text outputs) ++ field words.Returns (params_text returns)

abbrev pub block_text : {G : Type 0} → (G → List ℕ) → BlockTree G → List ℕ
block_text text block =
    block_front block.inputs block.feedback ++ flat_map (line_text text) block.lines
    ++ block_back block.outputs block.returns

-- a game of a branch with the value at which it is played
abbrev pub branch_arm_text : {G : Type 0} → (G → List ℕ) → ArmTree G → List ℕ
branch_arm_text text arm =
    in_parens (value_text arm.key) ++ mark marks.Arrow ++ text arm.game ++ mark marks.Semicolon

-- ---- games without games inside

unfoldable pub call_text : List ℕ → List ArgTree → List ℕ
call_text name args = spaced name ++ optional (map arg_text args)

unfoldable pub decision_text : AgentTree → List TyTree → TyTree → Option Among → List ℕ
decision_text agent observes action among =
    word words.DependentDecision ++ agent_text agent ++ tys_text observes ++ ty_text action ++ among_text among

unfoldable pub nature_text : List TyTree → TyTree → List RowTree → List ℕ
nature_text observes outcome rows =
    word words.Nature ++ tys_text observes ++ ty_text outcome ++ in_braces (flat_map row_text rows)

-- variables, and what is computed from them
unfoldable pub function_text : Word → List ParamTree → List (ResultTree ExprTree) → List ℕ
function_text w params results =
    word w ++ in_parens (params_text params) ++ mark marks.Arrow ++ in_parens (results_text results)

unfoldable pub identity_text : List TyTree → List TyTree → List ℕ
identity_text forward backward = word words.Identity ++ tys_text forward ++ tys_text backward

-- ---- games

-- what no composition is the outermost of
abbrev pub atom : List ℕ → Shown
atom text = record { level = 3; text = text }

abbrev pub game_step : GameTree-F Shown → Shown
game_step (game_level.Call at name args) = atom (call_text name args)
game_step (game_level.Seq first second) =
    record { level = 1; text = at_least 1 first ++ mark marks.Then ++ at_least 2 second }
game_step (game_level.Par first second) =
    record { level = 2; text = at_least 2 first ++ mark marks.Beside ++ at_least 3 second }
game_step (game_level.Block at block) = atom (word words.Block ++ in_braces (block_text anywhere block))
game_step (game_level.Decision at agent observes action among) = atom (decision_text agent observes action among)
game_step (game_level.Nature at observes outcome rows) = atom (nature_text observes outcome rows)
game_step (game_level.Forward at params results) = atom (function_text words.ForwardFunction params results)
game_step (game_level.Backward at params results) = atom (function_text words.BackwardFunction params results)
game_step (game_level.Identity at forward backward) = atom (identity_text forward backward)
game_step (game_level.Library at name) = atom (word words.Library ++ spaced name.name)
game_step (game_level.Branch at selector arms) =
    atom (word words.Branch ++ ty_text selector ++ in_braces (flat_map (branch_arm_text anywhere) arms))

abbrev pub shown_game : GameTree → Shown
shown_game = fold-GameTree Shown game_step

abbrev pub game_text : GameTree → List ℕ
game_text g = anywhere (shown_game g)
