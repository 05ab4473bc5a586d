-- Trees without their places: each place is 0, and all else is as it was. Two trees say the same, wherever
-- they were written, where they are equal without their places. Each `step` is the rule for one form,
-- whose parts have no places any more.
use Rattle.std.specs.Prelude.{map}
use Rattle.std.specs.Option.{option_map}
use Rattle.og_syntax.specs.declared.types.NameTree.{NameTree}
use Rattle.og_syntax.specs.declared.types.ParamTree.{ParamTree}
use Rattle.og_syntax.specs.declared.types.TyTree.{TyTree}
use Rattle.og_syntax.specs.declared.types.TyTree.TheOpen.{TyTree-F}
use Rattle.og_syntax.specs.declared.types.TyTree.TheOpen as ty_level
use Rattle.og_syntax.specs.declared.types.TyTree.TheFolds.{fold-TyTree}
use Rattle.og_syntax.specs.declared.types.TyTree.TheVariants as tys
use Rattle.og_syntax.specs.declared.values.ValueTree.{ValueTree}
use Rattle.og_syntax.specs.declared.values.ValueTree.TheOpen.{ValueTree-F}
use Rattle.og_syntax.specs.declared.values.ValueTree.TheOpen as value_level
use Rattle.og_syntax.specs.declared.values.ValueTree.TheFolds.{fold-ValueTree}
use Rattle.og_syntax.specs.declared.values.ValueTree.TheVariants as values
use Rattle.og_syntax.specs.declared.values.RowTree.{RowTree}
use Rattle.og_syntax.specs.declared.values.EntryTree.{EntryTree}
use Rattle.og_syntax.specs.declared.expressions.ExprTree.{ExprTree}
use Rattle.og_syntax.specs.declared.expressions.ExprTree.TheOpen.{ExprTree-F}
use Rattle.og_syntax.specs.declared.expressions.ExprTree.TheOpen as expr_level
use Rattle.og_syntax.specs.declared.expressions.ExprTree.TheFolds.{fold-ExprTree}
use Rattle.og_syntax.specs.declared.expressions.ExprTree.TheVariants as exprs
use Rattle.og_syntax.specs.declared.expressions.ResultTree.{ResultTree}
use Rattle.og_syntax.specs.declared.expressions.TableRow.{TableRow}
use Rattle.og_syntax.specs.declared.games.AgentTree.{AgentTree}
use Rattle.og_syntax.specs.declared.games.AgentTree.TheVariants as agents
use Rattle.og_syntax.specs.declared.games.ArgTree.{ArgTree}
use Rattle.og_syntax.specs.declared.games.ArgTree.TheVariants as args
use Rattle.og_syntax.specs.declared.games.Among.{Among}
use Rattle.og_syntax.specs.declared.games.AmongTree.{AmongTree}
use Rattle.og_syntax.specs.declared.games.ArmTree.{ArmTree}
use Rattle.og_syntax.specs.declared.games.BlockTree.{BlockTree}
use Rattle.og_syntax.specs.declared.games.LineTree.{LineTree}
use Rattle.og_syntax.specs.declared.games.GameTree.{GameTree}
use Rattle.og_syntax.specs.declared.games.GameTree.TheOpen.{GameTree-F}
use Rattle.og_syntax.specs.declared.games.GameTree.TheOpen as game_level
use Rattle.og_syntax.specs.declared.games.GameTree.TheFolds.{fold-GameTree}
use Rattle.og_syntax.specs.declared.games.GameTree.TheVariants as games
use Rattle.og_syntax.specs.declared.declarations.Program.{Program}
use Rattle.og_syntax.specs.declared.declarations.Decl.{Decl}
use Rattle.og_syntax.specs.declared.declarations.Decl.TheVariants as decls
use Rattle.og_syntax.specs.declared.declarations.GameParam.{GameParam}
use Rattle.og_syntax.specs.declared.declarations.ParamKind.{ParamKind}
use Rattle.og_syntax.specs.declared.declarations.ParamKind.TheVariants as kinds
use Rattle.og_syntax.specs.declared.strategies.StrategyFile.{StrategyFile}
use Rattle.og_syntax.specs.declared.strategies.Section.{Section}

abbrev pub name_unplaced : NameTree → NameTree
name_unplaced name = record { at = 0; name = name.name }

abbrev pub ty_step : TyTree-F TyTree → TyTree
ty_step (ty_level.Name at name) = tys.Name 0 name
ty_step (ty_level.Bool at) = tys.Bool 0
ty_step (ty_level.Number at) = tys.Number 0
ty_step (ty_level.Range at low high) = tys.Range 0 low high
ty_step (ty_level.Tuple at parts) = tys.Tuple 0 parts

abbrev pub ty_unplaced : TyTree → TyTree
ty_unplaced = fold-TyTree TyTree ty_step

abbrev pub param_unplaced : ParamTree → ParamTree
param_unplaced param = record { at = 0; name = param.name; ty = ty_unplaced param.ty }

abbrev pub value_step : ValueTree-F ValueTree → ValueTree
value_step (value_level.Name at name) = values.Name 0 name
value_step (value_level.Flag at flag) = values.Flag 0 flag
value_step (value_level.Number at number) = values.Number 0 number
value_step (value_level.Tuple at parts) = values.Tuple 0 parts

abbrev pub value_unplaced : ValueTree → ValueTree
value_unplaced = fold-ValueTree ValueTree value_step

abbrev pub entry_unplaced : EntryTree → EntryTree
entry_unplaced entry = record { value = value_unplaced entry.value; num = entry.num; den = entry.den }

abbrev pub row_unplaced : RowTree → RowTree
row_unplaced row = record { at = 0; key = map value_unplaced row.key; entries = map entry_unplaced row.entries }

-- the place and the key of a table's row, whose expression has no places any more
abbrev pub table_row_unplaced : TableRow ExprTree → TableRow ExprTree
table_row_unplaced row = record { at = 0; key = map value_unplaced row.key; body = row.body }

-- the type beside an expression that has no places any more
abbrev pub typed_unplaced : ResultTree ExprTree → ResultTree ExprTree
typed_unplaced typed = record { expr = typed.expr; ty = ty_unplaced typed.ty }

abbrev pub expr_step : ExprTree-F ExprTree → ExprTree
expr_step (expr_level.Number at number) = exprs.Number 0 number
expr_step (expr_level.Flag at flag) = exprs.Flag 0 flag
expr_step (expr_level.Name at name) = exprs.Name 0 name
expr_step (expr_level.Call at name args) = exprs.Call 0 name args
expr_step (expr_level.Or at parts) = exprs.Or 0 parts
expr_step (expr_level.And at parts) = exprs.And 0 parts
expr_step (expr_level.Not at part) = exprs.Not 0 part
expr_step (expr_level.Compare at op left right) = exprs.Compare 0 op left right
expr_step (expr_level.Sum at first rest) = exprs.Sum 0 first rest
expr_step (expr_level.Product at first rest) = exprs.Product 0 first rest
expr_step (expr_level.Neg at part) = exprs.Neg 0 part
expr_step (expr_level.Field at part path) = exprs.Field 0 part path
expr_step (expr_level.Tuple at parts) = exprs.Tuple 0 parts
expr_step (expr_level.If at arms otherwise) = exprs.If 0 arms otherwise
expr_step (expr_level.Table at keys rows) = exprs.Table 0 (map typed_unplaced keys) (map table_row_unplaced rows)
expr_step (expr_level.Ratio at x y otherwise) = exprs.Ratio 0 x y otherwise
expr_step (expr_level.Min at first second) = exprs.Min 0 first second
expr_step (expr_level.Max at first second) = exprs.Max 0 first second
expr_step (expr_level.Clamp at lo_at lo hi part) = exprs.Clamp 0 0 lo hi part

abbrev pub expr_unplaced : ExprTree → ExprTree
expr_unplaced = fold-ExprTree ExprTree expr_step

abbrev pub result_unplaced : ResultTree ExprTree → ResultTree ExprTree
result_unplaced each = record { expr = expr_unplaced each.expr; ty = ty_unplaced each.ty }

abbrev pub agent_unplaced : AgentTree → AgentTree
agent_unplaced (agents.Quoted at name) = agents.Quoted 0 name
agent_unplaced (agents.Var at name) = agents.Var 0 name

abbrev pub arg_unplaced : ArgTree → ArgTree
arg_unplaced (args.Quoted at name) = args.Quoted 0 name
arg_unplaced (args.Var at name) = args.Var 0 name
arg_unplaced (args.Val v) = args.Val (value_unplaced v)

abbrev pub allowed_unplaced : AmongTree → AmongTree
allowed_unplaced row = record { at = 0; key = map value_unplaced row.key; actions = map value_unplaced row.actions }

abbrev pub among_unplaced : Among → Among
among_unplaced among = record { at = 0; rows = map allowed_unplaced among.rows }

-- the place and the key of an arm whose game has no places any more
abbrev pub arm_unplaced : ArmTree GameTree → ArmTree GameTree
arm_unplaced arm = record { at = 0; key = value_unplaced arm.key; game = arm.game }

-- the wires of a line whose game has no places any more
abbrev pub line_unplaced : LineTree GameTree → LineTree GameTree
line_unplaced line = record {
  inputs = map expr_unplaced line.inputs;
  feedback = map name_unplaced line.feedback;
  operation = line.operation;
  outputs = map name_unplaced line.outputs;
  returns = map expr_unplaced line.returns;
}

-- the border and the wires of a block whose lines' games have no places any more
abbrev pub block_unplaced : BlockTree GameTree → BlockTree GameTree
block_unplaced block = record {
  inputs = map param_unplaced block.inputs;
  feedback = map result_unplaced block.feedback;
  lines = map line_unplaced block.lines;
  outputs = map result_unplaced block.outputs;
  returns = map param_unplaced block.returns;
}

abbrev pub game_step : GameTree-F GameTree → GameTree
game_step (game_level.Call at name args) = games.Call 0 name (map arg_unplaced args)
game_step (game_level.Seq first second) = games.Seq first second
game_step (game_level.Par first second) = games.Par first second
game_step (game_level.Block at block) = games.Block 0 (block_unplaced block)
game_step (game_level.Decision at who observes action among) =
    games.Decision 0 (agent_unplaced who) (map ty_unplaced observes) (ty_unplaced action)
    (option_map among_unplaced among)
game_step (game_level.Nature at observes outcome rows) =
    games.Nature 0 (map ty_unplaced observes) (ty_unplaced outcome) (map row_unplaced rows)
game_step (game_level.Forward at params results) =
    games.Forward 0 (map param_unplaced params) (map result_unplaced results)
game_step (game_level.Backward at params results) =
    games.Backward 0 (map param_unplaced params) (map result_unplaced results)
game_step (game_level.Identity at forward backward) =
    games.Identity 0 (map ty_unplaced forward) (map ty_unplaced backward)
game_step (game_level.Library at name) = games.Library 0 (name_unplaced name)
game_step (game_level.Branch at selector arms) =
    games.Branch 0 (ty_unplaced selector) (map arm_unplaced arms)

abbrev pub game_unplaced : GameTree → GameTree
game_unplaced = fold-GameTree GameTree game_step

abbrev pub kind_unplaced : ParamKind → ParamKind
kind_unplaced kinds.Agent = kinds.Agent
kind_unplaced (kinds.Of t) = kinds.Of (ty_unplaced t)

abbrev pub game_param_unplaced : GameParam → GameParam
game_param_unplaced param = record { at = 0; name = param.name; kind = kind_unplaced param.kind }

abbrev pub decl_unplaced : Decl → Decl
decl_unplaced (decls.Enum at name cases) = decls.Enum 0 name (map name_unplaced cases)
decl_unplaced (decls.Alias at name t) = decls.Alias 0 name (ty_unplaced t)
decl_unplaced (decls.Fn at name params answer body) =
    decls.Fn 0 name (map param_unplaced params) (ty_unplaced answer) (expr_unplaced body)
decl_unplaced (decls.Game at name params body) =
    decls.Game 0 name (map game_param_unplaced params) (game_unplaced body)

abbrev pub program_unplaced : Program → Program
program_unplaced program = record { at = 0; version = program.version; decls = map decl_unplaced program.decls }

abbrev pub section_unplaced : Section → Section
section_unplaced section =
    record { at = 0; agent = name_unplaced section.agent; rows = map row_unplaced section.rows }

abbrev pub file_unplaced : StrategyFile → StrategyFile
file_unplaced file = record { at = 0; sections = map section_unplaced file.sections }
