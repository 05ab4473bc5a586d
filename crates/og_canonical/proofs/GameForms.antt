-- What a game is shown as, form by form.
use Rattle.std.proofs.Common.{◌≡◌, ℕ, List, ◌++◌, map, ap, sym, refl, ◌∙◌, append_assoc, [], ◌∷◌}
use Rattle.std.specs.Prelude.{flat_map, Option}
use Rattle.og_lex.specs.declared.token.Word.TheVariants as words
use Rattle.og_lex.specs.declared.token.Mark.TheVariants as marks
use Rattle.og_syntax.specs.declared.types.NameTree.{NameTree}
use Rattle.og_syntax.specs.declared.types.ParamTree.{ParamTree}
use Rattle.og_syntax.specs.declared.types.TyTree.{TyTree}
use Rattle.og_syntax.specs.declared.values.RowTree.{RowTree}
use Rattle.og_syntax.specs.declared.expressions.ExprTree.{ExprTree}
use Rattle.og_syntax.specs.declared.expressions.ResultTree.{ResultTree}
use Rattle.og_syntax.specs.declared.games.AgentTree.{AgentTree}
use Rattle.og_syntax.specs.declared.games.ArgTree.{ArgTree}
use Rattle.og_syntax.specs.declared.games.Among.{Among}
use Rattle.og_syntax.specs.declared.games.ArmTree.{ArmTree}
use Rattle.og_syntax.specs.declared.games.BlockTree.{BlockTree}
use Rattle.og_syntax.specs.declared.games.LineTree.{LineTree}
use Rattle.og_syntax.specs.declared.games.GameTree.{GameTree}
use Rattle.og_syntax.specs.declared.games.GameTree.TheOpen.{GameTree-F}
use Rattle.og_syntax.specs.declared.games.GameTree.TheOpen as game_level
use Rattle.og_syntax.specs.declared.games.GameTree.TheFolds.{fold-roll-GameTree, map-GameTree}
use Rattle.og_syntax.specs.declared.games.GameTree.TheVariants as games
use Rattle.og_canonical.specs.Tokens.{spaced, mark, word, in_braces}
use Rattle.og_canonical.specs.Types.{ty_text}
use Rattle.og_canonical.specs.Expressions.{Shown, at_least, anywhere}
use Rattle.og_canonical.specs.Games.{atom, game_step, shown_game, game_text, block_text, line_text, branch_arm_text}
use Rattle.og_canonical.specs.Games.{block_front, block_back, call_text, decision_text, nature_text, function_text, identity_text}

-- the text at some level, with the level that it has
abbrev at_level : ℕ → List ℕ → Shown
at_level level text = record { level = level; text = text }

-- one level of a game, with its parts shown
abbrev over_parts : GameTree-F GameTree → GameTree-F Shown
over_parts = map-GameTree GameTree Shown shown_game

-- ---- the parts that a level has, of each kind

abbrev lines_of : GameTree-F Shown → List (LineTree Shown)
lines_of (game_level.Block at block) = block.lines
lines_of _ = []

abbrev arms_of : GameTree-F Shown → List (ArmTree Shown)
arms_of (game_level.Branch at selector arms) = arms
arms_of _ = []

-- ---- and their texts

abbrev block_of : List ParamTree → List (ResultTree ExprTree) → List (LineTree GameTree)
    → List (ResultTree ExprTree) → List ParamTree → BlockTree GameTree
block_of inputs feedback lines outputs returns = record {
  inputs = inputs;
  feedback = feedback;
  lines = lines;
  outputs = outputs;
  returns = returns;
}

module _ (at : ℕ) (inputs : List ParamTree) (feedback outputs : List (ResultTree ExprTree)) (returns : List ParamTree) where
  lines_text : (lines : List (LineTree GameTree))
      → flat_map (line_text anywhere) (lines_of (over_parts (game_level.Block at (block_of inputs feedback lines outputs returns))))
      ≡ flat_map (line_text game_text) lines
  lines_text [] = refl
  lines_text (line ∷ lines) = ap (λ texts. line_text game_text line ++ texts) (lines_text lines)

arms_text : (at : ℕ) (selector : TyTree) (arms : List (ArmTree GameTree))
    → flat_map (branch_arm_text anywhere) (arms_of (over_parts (game_level.Branch at selector arms)))
    ≡ flat_map (branch_arm_text game_text) arms
arms_text at selector [] = refl
arms_text at selector (arm ∷ arms) = ap (λ texts. branch_arm_text game_text arm ++ texts) (arms_text at selector arms)

-- ---- the forms

pub shown_call : (at : ℕ) (name : List ℕ) (xs : List ArgTree) → shown_game (games.Call at name xs) ≡ atom (call_text name xs)
shown_call at name xs =
    ap shown_game (sym (games.rolls-Call at name xs)) ∙ fold-roll-GameTree Shown game_step (game_level.Call at name xs)

pub shown_seq : (first second : GameTree)
    → shown_game (games.Seq first second)
    ≡ at_level 1 (at_least 1 (shown_game first) ++ mark marks.Then ++ at_least 2 (shown_game second))
shown_seq first second =
    ap shown_game (sym (games.rolls-Seq first second)) ∙ fold-roll-GameTree Shown game_step (game_level.Seq first second)

pub shown_par : (first second : GameTree)
    → shown_game (games.Par first second)
    ≡ at_level 2 (at_least 2 (shown_game first) ++ mark marks.Beside ++ at_least 3 (shown_game second))
shown_par first second =
    ap shown_game (sym (games.rolls-Par first second)) ∙ fold-roll-GameTree Shown game_step (game_level.Par first second)

pub shown_block : (at : ℕ) (block : BlockTree GameTree)
    → shown_game (games.Block at block) ≡ atom (word words.Block ++ in_braces (block_text game_text block))
shown_block at block =
    ap shown_game (sym (games.rolls-Block at block)) ∙ fold-roll-GameTree Shown game_step (game_level.Block at block)
    ∙ ap (λ texts. atom (word words.Block ++ in_braces (block_front block.inputs block.feedback ++ texts ++ block_back block.outputs block.returns)))
    (lines_text at block.inputs block.feedback block.outputs block.returns block.lines)

pub shown_decision : (at : ℕ) (agent : AgentTree) (observes : List TyTree) (action : TyTree) (among : Option Among)
    → shown_game (games.Decision at agent observes action among) ≡ atom (decision_text agent observes action among)
shown_decision at agent observes action among =
    ap shown_game (sym (games.rolls-Decision at agent observes action among))
    ∙ fold-roll-GameTree Shown game_step (game_level.Decision at agent observes action among)

pub shown_nature : (at : ℕ) (observes : List TyTree) (outcome : TyTree) (rows : List RowTree)
    → shown_game (games.Nature at observes outcome rows) ≡ atom (nature_text observes outcome rows)
shown_nature at observes outcome rows =
    ap shown_game (sym (games.rolls-Nature at observes outcome rows))
    ∙ fold-roll-GameTree Shown game_step (game_level.Nature at observes outcome rows)

pub shown_forward : (at : ℕ) (params : List ParamTree) (results : List (ResultTree ExprTree))
    → shown_game (games.Forward at params results) ≡ atom (function_text words.ForwardFunction params results)
shown_forward at params results =
    ap shown_game (sym (games.rolls-Forward at params results))
    ∙ fold-roll-GameTree Shown game_step (game_level.Forward at params results)

pub shown_backward : (at : ℕ) (params : List ParamTree) (results : List (ResultTree ExprTree))
    → shown_game (games.Backward at params results) ≡ atom (function_text words.BackwardFunction params results)
shown_backward at params results =
    ap shown_game (sym (games.rolls-Backward at params results))
    ∙ fold-roll-GameTree Shown game_step (game_level.Backward at params results)

pub shown_identity : (at : ℕ) (forward backward : List TyTree)
    → shown_game (games.Identity at forward backward) ≡ atom (identity_text forward backward)
shown_identity at forward backward =
    ap shown_game (sym (games.rolls-Identity at forward backward))
    ∙ fold-roll-GameTree Shown game_step (game_level.Identity at forward backward)

pub shown_library : (at : ℕ) (name : NameTree)
    → shown_game (games.Library at name) ≡ atom (word words.Library ++ spaced name.name)
shown_library at name =
    ap shown_game (sym (games.rolls-Library at name)) ∙ fold-roll-GameTree Shown game_step (game_level.Library at name)

pub shown_branch : (at : ℕ) (selector : TyTree) (arms : List (ArmTree GameTree))
    → shown_game (games.Branch at selector arms)
    ≡ atom (word words.Branch ++ ty_text selector ++ in_braces (flat_map (branch_arm_text game_text) arms))
shown_branch at selector arms =
    ap shown_game (sym (games.rolls-Branch at selector arms))
    ∙ fold-roll-GameTree Shown game_step (game_level.Branch at selector arms)
    ∙ ap (λ texts. atom (word words.Branch ++ ty_text selector ++ in_braces texts)) (arms_text at selector arms)

pub ruleset forms = (
  append_assoc,
  shown_call,
  shown_seq,
  shown_par,
  shown_block,
  shown_decision,
  shown_nature,
  shown_forward,
  shown_backward,
  shown_identity,
  shown_library,
  shown_branch,
)
