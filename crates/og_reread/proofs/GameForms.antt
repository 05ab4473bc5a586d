-- What games are without their places, form by form.
use Rattle.std.proofs.Common.{◌≡◌, ◌∙◌, ℕ, List, [], ◌∷◌, map, Option, refl, sym, ap}
use Rattle.std.specs.Option.{option_map}
use Rattle.og_syntax.specs.declared.types.NameTree.{NameTree}
use Rattle.og_syntax.specs.declared.types.ParamTree.{ParamTree}
use Rattle.og_syntax.specs.declared.types.TyTree.{TyTree}
use Rattle.og_syntax.specs.declared.values.RowTree.{RowTree}
use Rattle.og_syntax.specs.declared.expressions.ExprTree.{ExprTree}
use Rattle.og_syntax.specs.declared.expressions.ResultTree.{ResultTree}
use Rattle.og_syntax.specs.declared.games.AgentTree.{AgentTree}
use Rattle.og_syntax.specs.declared.games.ArgTree.{ArgTree}
use Rattle.og_syntax.specs.declared.games.Among.{Among}
use Rattle.og_syntax.specs.declared.games.ArmTree.{ArmTree}
use Rattle.og_syntax.specs.declared.games.BlockTree.{BlockTree}
use Rattle.og_syntax.specs.declared.games.LineTree.{LineTree}
use Rattle.og_syntax.specs.declared.games.GameTree.{GameTree}
use Rattle.og_syntax.specs.declared.games.GameTree.TheOpen.{GameTree-F}
use Rattle.og_syntax.specs.declared.games.GameTree.TheOpen as game_level
use Rattle.og_syntax.specs.declared.games.GameTree.TheFolds.{fold-roll-GameTree, map-GameTree}
use Rattle.og_syntax.specs.declared.games.GameTree.TheVariants as games
use Rattle.og_syntax.specs.Unplaced as u

-- ---- parts with games inside

abbrev pub line_whole : LineTree GameTree → LineTree GameTree
line_whole line = record {
  inputs = map u.expr_unplaced line.inputs;
  feedback = map u.name_unplaced line.feedback;
  operation = u.game_unplaced line.operation;
  outputs = map u.name_unplaced line.outputs;
  returns = map u.expr_unplaced line.returns;
}

abbrev pub block_whole : BlockTree GameTree → BlockTree GameTree
block_whole block = record {
  inputs = map u.param_unplaced block.inputs;
  feedback = map u.result_unplaced block.feedback;
  lines = map line_whole block.lines;
  outputs = map u.result_unplaced block.outputs;
  returns = map u.param_unplaced block.returns;
}

abbrev pub arm_whole : ArmTree GameTree → ArmTree GameTree
arm_whole arm = record { at = 0; key = u.value_unplaced arm.key; game = u.game_unplaced arm.game }

-- one level of a game, whose parts have no places any more
abbrev over_parts : GameTree-F GameTree → GameTree-F GameTree
over_parts = map-GameTree GameTree GameTree u.game_unplaced

abbrev lines_of : GameTree-F GameTree → List (LineTree GameTree)
lines_of (game_level.Block at block) = block.lines
lines_of _ = []

abbrev arms_of : GameTree-F GameTree → List (ArmTree GameTree)
arms_of (game_level.Branch at selector arms) = arms
arms_of _ = []

abbrev block_of : List ParamTree → List (ResultTree ExprTree) → List (LineTree GameTree)
    → List (ResultTree ExprTree) → List ParamTree → BlockTree GameTree
block_of inputs feedback lines outputs returns = record {
  inputs = inputs;
  feedback = feedback;
  lines = lines;
  outputs = outputs;
  returns = returns;
}

module _ (at : ℕ) (inputs : List ParamTree) (feedback outputs : List (ResultTree ExprTree)) (returns : List ParamTree) where
  lines_unplaced : (lines : List (LineTree GameTree))
      → map u.line_unplaced (lines_of (over_parts (game_level.Block at (block_of inputs feedback lines outputs returns))))
      ≡ map line_whole lines
  lines_unplaced [] = refl
  lines_unplaced (line ∷ lines) = ap (λ more. line_whole line ∷ more) (lines_unplaced lines)

arms_unplaced : (at : ℕ) (selector : TyTree) (arms : List (ArmTree GameTree))
    → map u.arm_unplaced (arms_of (over_parts (game_level.Branch at selector arms))) ≡ map arm_whole arms
arms_unplaced at selector [] = refl
arms_unplaced at selector (arm ∷ arms) = ap (λ more. arm_whole arm ∷ more) (arms_unplaced at selector arms)

-- ---- the forms

pub game_call : (at : ℕ) (name : List ℕ) (xs : List ArgTree) → u.game_unplaced (games.Call at name xs) ≡ games.Call 0 name (map u.arg_unplaced xs)
game_call at name xs =
    ap u.game_unplaced (sym (games.rolls-Call at name xs)) ∙ fold-roll-GameTree GameTree u.game_step (game_level.Call at name xs)

pub game_seq : (first second : GameTree) → u.game_unplaced (games.Seq first second) ≡ games.Seq (u.game_unplaced first) (u.game_unplaced second)
game_seq first second =
    ap u.game_unplaced (sym (games.rolls-Seq first second)) ∙ fold-roll-GameTree GameTree u.game_step (game_level.Seq first second)

pub game_par : (first second : GameTree) → u.game_unplaced (games.Par first second) ≡ games.Par (u.game_unplaced first) (u.game_unplaced second)
game_par first second =
    ap u.game_unplaced (sym (games.rolls-Par first second)) ∙ fold-roll-GameTree GameTree u.game_step (game_level.Par first second)

pub game_block : (at : ℕ) (block : BlockTree GameTree) → u.game_unplaced (games.Block at block) ≡ games.Block 0 (block_whole block)
game_block at block =
    ap u.game_unplaced (sym (games.rolls-Block at block)) ∙ fold-roll-GameTree GameTree u.game_step (game_level.Block at block)
    ∙ ap (λ lines. games.Block 0 (block_of (map u.param_unplaced block.inputs) (map u.result_unplaced block.feedback) lines
    (map u.result_unplaced block.outputs) (map u.param_unplaced block.returns)))
    (lines_unplaced at block.inputs block.feedback block.outputs block.returns block.lines)

pub game_decision : (at : ℕ) (agent : AgentTree) (observes : List TyTree) (action : TyTree) (among : Option Among)
    → u.game_unplaced (games.Decision at agent observes action among)
    ≡ games.Decision 0 (u.agent_unplaced agent) (map u.ty_unplaced observes) (u.ty_unplaced action) (option_map u.among_unplaced among)
game_decision at agent observes action among =
    ap u.game_unplaced (sym (games.rolls-Decision at agent observes action among))
    ∙ fold-roll-GameTree GameTree u.game_step (game_level.Decision at agent observes action among)

pub game_nature : (at : ℕ) (observes : List TyTree) (outcome : TyTree) (rows : List RowTree)
    → u.game_unplaced (games.Nature at observes outcome rows)
    ≡ games.Nature 0 (map u.ty_unplaced observes) (u.ty_unplaced outcome) (map u.row_unplaced rows)
game_nature at observes outcome rows =
    ap u.game_unplaced (sym (games.rolls-Nature at observes outcome rows))
    ∙ fold-roll-GameTree GameTree u.game_step (game_level.Nature at observes outcome rows)

pub game_forward : (at : ℕ) (params : List ParamTree) (results : List (ResultTree ExprTree))
    → u.game_unplaced (games.Forward at params results) ≡ games.Forward 0 (map u.param_unplaced params) (map u.result_unplaced results)
game_forward at params results =
    ap u.game_unplaced (sym (games.rolls-Forward at params results))
    ∙ fold-roll-GameTree GameTree u.game_step (game_level.Forward at params results)

pub game_backward : (at : ℕ) (params : List ParamTree) (results : List (ResultTree ExprTree))
    → u.game_unplaced (games.Backward at params results) ≡ games.Backward 0 (map u.param_unplaced params) (map u.result_unplaced results)
game_backward at params results =
    ap u.game_unplaced (sym (games.rolls-Backward at params results))
    ∙ fold-roll-GameTree GameTree u.game_step (game_level.Backward at params results)

pub game_identity : (at : ℕ) (forward backward : List TyTree)
    → u.game_unplaced (games.Identity at forward backward) ≡ games.Identity 0 (map u.ty_unplaced forward) (map u.ty_unplaced backward)
game_identity at forward backward =
    ap u.game_unplaced (sym (games.rolls-Identity at forward backward))
    ∙ fold-roll-GameTree GameTree u.game_step (game_level.Identity at forward backward)

pub game_library : (at : ℕ) (name : NameTree) → u.game_unplaced (games.Library at name) ≡ games.Library 0 (u.name_unplaced name)
game_library at name =
    ap u.game_unplaced (sym (games.rolls-Library at name)) ∙ fold-roll-GameTree GameTree u.game_step (game_level.Library at name)

pub game_branch : (at : ℕ) (selector : TyTree) (arms : List (ArmTree GameTree))
    → u.game_unplaced (games.Branch at selector arms) ≡ games.Branch 0 (u.ty_unplaced selector) (map arm_whole arms)
game_branch at selector arms =
    ap u.game_unplaced (sym (games.rolls-Branch at selector arms))
    ∙ fold-roll-GameTree GameTree u.game_step (game_level.Branch at selector arms)
    ∙ ap (λ l. games.Branch 0 (u.ty_unplaced selector) l) (arms_unplaced at selector arms)
