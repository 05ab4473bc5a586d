-- What the walk gives of a written game, form by form.
use Rattle.std.proofs.Common.{◌≡◌, ◌∙◌, ℕ, List, [], ◌∷◌, map, refl, ap, sym}
use Rattle.std.specs.Prelude.{Option, nat_le}
use Rattle.og_syntax.specs.declared.types.TyTree.{TyTree}
use Rattle.og_syntax.specs.declared.types.NameTree.{NameTree}
use Rattle.og_syntax.specs.declared.types.ParamTree.{ParamTree}
use Rattle.og_syntax.specs.declared.values.RowTree.{RowTree}
use Rattle.og_syntax.specs.declared.expressions.ExprTree.{ExprTree}
use Rattle.og_syntax.specs.declared.expressions.ResultTree.{ResultTree}
use Rattle.og_syntax.specs.declared.games.AgentTree.{AgentTree}
use Rattle.og_syntax.specs.declared.games.Among.{Among}
use Rattle.og_syntax.specs.declared.games.ArgTree.{ArgTree}
use Rattle.og_syntax.specs.declared.games.ArmTree.{ArmTree}
use Rattle.og_syntax.specs.declared.games.BlockTree.{BlockTree}
use Rattle.og_syntax.specs.declared.games.LineTree.{LineTree}
use Rattle.og_syntax.specs.declared.games.GameTree.{GameTree}
use Rattle.og_syntax.specs.declared.games.GameTree.TheOpen.{GameTree-F}
use Rattle.og_syntax.specs.declared.games.GameTree.TheOpen as forms
use Rattle.og_syntax.specs.declared.games.GameTree.TheViews.{out-GameTree}
use Rattle.og_syntax.specs.declared.games.GameTree.TheVariants as games
use Rattle.og_typing.specs.declared.fault.WireFault.TheVariants.{TooBig}
use Rattle.og_typing.specs.Types.{Table}
use Rattle.og_typing.specs.Checked.{◌>>◌, rule}
use Rattle.og_wires.specs.declared.kind.Level.{Level}
use Rattle.og_wires.specs.Sites.{Site}
use Rattle.og_wires.specs.Levels.{form_with, line_with, block_with, arm_with, fold_of_form}
use Rattle.og_wires.specs.Atoms.{decision_walk}
use Rattle.og_wires.specs.Wires.{hide_all, hide_lines, hide_params, backward_names}
use Rattle.og_wires.specs.Games.{game_rule, form_place, form_walk, part_of, block_walk, game_place, game_walk, rule_walk}

whole : (g : GameTree)
    → part_of g ≡ record { at = form_place (form_with part_of (out-GameTree g)); walk = form_walk (form_with part_of (out-GameTree g)) }
whole g = fold_of_form (λ form. record { at = form_place form; walk = form_walk form }) g

-- ---- where it begins

placed : (g : GameTree) (form : GameTree-F GameTree) → out-GameTree g ≡ form → game_place g ≡ form_place (form_with part_of form)
placed g form is = ap (λ part. part.at) (whole g) ∙ ap (λ f. form_place (form_with part_of f)) is

pub place_call : (at : ℕ) (name : List ℕ) (args : List ArgTree) → game_place (games.Call at name args) ≡ at
place_call at name args = placed (games.Call at name args) (forms.Call at name args) (games.outs-Call at name args)

pub place_seq : (left right : GameTree) → game_place (games.Seq left right) ≡ game_place left
place_seq left right = placed (games.Seq left right) (forms.Seq left right) (games.outs-Seq left right)

pub place_par : (left right : GameTree) → game_place (games.Par left right) ≡ game_place left
place_par left right = placed (games.Par left right) (forms.Par left right) (games.outs-Par left right)

pub place_block : (at : ℕ) (block : BlockTree GameTree) → game_place (games.Block at block) ≡ at
place_block at block = placed (games.Block at block) (forms.Block at block) (games.outs-Block at block)

pub place_decision : (at : ℕ) (agent : AgentTree) (observes : List TyTree) (action : TyTree) (among : Option Among)
    → game_place (games.Decision at agent observes action among) ≡ at
place_decision at agent observes action among =
    placed (games.Decision at agent observes action among) (forms.Decision at agent observes action among)
    (games.outs-Decision at agent observes action among)

pub place_nature : (at : ℕ) (observes : List TyTree) (outcome : TyTree) (rows : List RowTree)
    → game_place (games.Nature at observes outcome rows) ≡ at
place_nature at observes outcome rows =
    placed (games.Nature at observes outcome rows) (forms.Nature at observes outcome rows)
    (games.outs-Nature at observes outcome rows)

pub place_forward : (at : ℕ) (params : List ParamTree) (results : List (ResultTree ExprTree))
    → game_place (games.Forward at params results) ≡ at
place_forward at params results =
    placed (games.Forward at params results) (forms.Forward at params results) (games.outs-Forward at params results)

pub place_backward : (at : ℕ) (params : List ParamTree) (results : List (ResultTree ExprTree))
    → game_place (games.Backward at params results) ≡ at
place_backward at params results =
    placed (games.Backward at params results) (forms.Backward at params results) (games.outs-Backward at params results)

pub place_identity : (at : ℕ) (forward backward : List TyTree) → game_place (games.Identity at forward backward) ≡ at
place_identity at forward backward =
    placed (games.Identity at forward backward) (forms.Identity at forward backward) (games.outs-Identity at forward backward)

pub place_library : (at : ℕ) (name : NameTree) → game_place (games.Library at name) ≡ at
place_library at name = placed (games.Library at name) (forms.Library at name) (games.outs-Library at name)

pub place_branch : (at : ℕ) (selector : TyTree) (arms : List (ArmTree GameTree)) → game_place (games.Branch at selector arms) ≡ at
place_branch at selector arms =
    placed (games.Branch at selector arms) (forms.Branch at selector arms) (games.outs-Branch at selector arms)

pub ruleset places = (place_call, place_seq, place_par, place_block, place_decision, place_nature, place_forward, place_backward, place_identity, place_library, place_branch)

-- ---- its walk

pub walk_out : (g : GameTree) (site : Site) (level : Level)
    → game_walk g site level ≡ (rule (nat_le level.depth 48) (TooBig (game_place g)) >> rule_walk g site level)
walk_out g site level =
    ap (λ part. part.walk site level) (whole g)
    ∙ ap (λ at. rule (nat_le level.depth 48) (TooBig at) >> rule_walk g site level) (sym (ap (λ part. part.at) (whole g)))

module _ (site : Site) (level : Level) where
  by_form : (g : GameTree) (form : GameTree-F GameTree) → out-GameTree g ≡ form
      → rule_walk g site level ≡ game_rule (form_with part_of form) site level
  by_form g form is = ap (λ f. game_rule (form_with part_of f) site level) is

  pub rule_call : (at : ℕ) (name : List ℕ) (args : List ArgTree)
      → rule_walk (games.Call at name args) site level ≡ game_rule (forms.Call at name args) site level
  rule_call at name args = by_form (games.Call at name args) (forms.Call at name args) (games.outs-Call at name args)

  pub rule_seq : (left right : GameTree)
      → rule_walk (games.Seq left right) site level ≡ game_rule (forms.Seq (part_of left) (part_of right)) site level
  rule_seq left right = by_form (games.Seq left right) (forms.Seq left right) (games.outs-Seq left right)

  pub rule_par : (left right : GameTree)
      → rule_walk (games.Par left right) site level ≡ game_rule (forms.Par (part_of left) (part_of right)) site level
  rule_par left right = by_form (games.Par left right) (forms.Par left right) (games.outs-Par left right)

  pub rule_block : (at : ℕ) (block : BlockTree GameTree)
      → rule_walk (games.Block at block) site level ≡ block_walk site level (block_with part_of block)
  unfolding game_rule
  rule_block at block = by_form (games.Block at block) (forms.Block at block) (games.outs-Block at block)

  pub rule_decision : (at : ℕ) (agent : AgentTree) (observes : List TyTree) (action : TyTree) (among : Option Among)
      → rule_walk (games.Decision at agent observes action among) site level
      ≡ decision_walk site level at agent observes action among
  unfolding game_rule
  rule_decision at agent observes action among =
      by_form (games.Decision at agent observes action among) (forms.Decision at agent observes action among)
      (games.outs-Decision at agent observes action among)

  pub rule_nature : (at : ℕ) (observes : List TyTree) (outcome : TyTree) (rows : List RowTree)
      → rule_walk (games.Nature at observes outcome rows) site level ≡ game_rule (forms.Nature at observes outcome rows) site level
  rule_nature at observes outcome rows =
      by_form (games.Nature at observes outcome rows) (forms.Nature at observes outcome rows)
      (games.outs-Nature at observes outcome rows)

  pub rule_forward : (at : ℕ) (params : List ParamTree) (results : List (ResultTree ExprTree))
      → rule_walk (games.Forward at params results) site level ≡ game_rule (forms.Forward at params results) site level
  rule_forward at params results =
      by_form (games.Forward at params results) (forms.Forward at params results) (games.outs-Forward at params results)

  pub rule_backward : (at : ℕ) (params : List ParamTree) (results : List (ResultTree ExprTree))
      → rule_walk (games.Backward at params results) site level ≡ game_rule (forms.Backward at params results) site level
  rule_backward at params results =
      by_form (games.Backward at params results) (forms.Backward at params results) (games.outs-Backward at params results)

  pub rule_identity : (at : ℕ) (forward backward : List TyTree)
      → rule_walk (games.Identity at forward backward) site level ≡ game_rule (forms.Identity at forward backward) site level
  rule_identity at forward backward =
      by_form (games.Identity at forward backward) (forms.Identity at forward backward) (games.outs-Identity at forward backward)

  pub rule_library : (at : ℕ) (name : NameTree)
      → rule_walk (games.Library at name) site level ≡ game_rule (forms.Library at name) site level
  rule_library at name = by_form (games.Library at name) (forms.Library at name) (games.outs-Library at name)

  pub rule_branch : (at : ℕ) (selector : TyTree) (arms : List (ArmTree GameTree))
      → rule_walk (games.Branch at selector arms) site level
      ≡ game_rule (forms.Branch at selector (map (arm_with part_of) arms)) site level
  rule_branch at selector arms =
      by_form (games.Branch at selector arms) (forms.Branch at selector arms) (games.outs-Branch at selector arms)

pub ruleset atoms = (rule_call, rule_decision, rule_nature, rule_forward, rule_backward, rule_identity, rule_library)

pub ruleset composed = (rule_seq, rule_par, rule_block, rule_branch)

-- ---- what comes backwards in a block

hidden_lines : (hidden : Table (Unit {0})) (lines : List (LineTree GameTree))
    → hide_lines hidden (map (line_with part_of) lines) ≡ hide_lines hidden lines
hidden_lines hidden [] = refl
hidden_lines hidden (line ∷ lines) = hidden_lines (hide_all hidden line.feedback) lines

pub backwards : (lines : List (LineTree GameTree)) (returns : List ParamTree)
    → backward_names (map (line_with part_of) lines) returns ≡ backward_names lines returns
backwards lines returns = ap (λ hidden. hide_params hidden returns) (hidden_lines [] lines)
