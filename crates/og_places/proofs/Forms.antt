-- Where a step leads from a game, form by form.
use Rattle.std.proofs.Common.{◌≡◌, ℕ, List, ap}
use Rattle.std.specs.Prelude.{Option, None}
use Rattle.og_syntax.specs.declared.types.TyTree.{TyTree}
use Rattle.og_syntax.specs.declared.types.NameTree.{NameTree}
use Rattle.og_syntax.specs.declared.types.ParamTree.{ParamTree}
use Rattle.og_syntax.specs.declared.values.RowTree.{RowTree}
use Rattle.og_syntax.specs.declared.expressions.ExprTree.{ExprTree}
use Rattle.og_syntax.specs.declared.expressions.ResultTree.{ResultTree}
use Rattle.og_syntax.specs.declared.games.AgentTree.{AgentTree}
use Rattle.og_syntax.specs.declared.games.Among.{Among}
use Rattle.og_syntax.specs.declared.games.ArgTree.{ArgTree}
use Rattle.og_syntax.specs.declared.games.ArmTree.{ArmTree}
use Rattle.og_syntax.specs.declared.games.BlockTree.{BlockTree}
use Rattle.og_syntax.specs.declared.games.GameTree.{GameTree}
use Rattle.og_syntax.specs.declared.games.GameTree.TheVariants as games
use Rattle.og_places.specs.declared.places.Step.{Step}
use Rattle.og_places.specs.Places.{side_at, line_at, part_of_form, part_at}

module _ (step : Step) where
  pub part_seq : (left right : GameTree) → part_at (games.Seq left right) step ≡ side_at left right step
  part_seq left right = ap (λ form. part_of_form form step) (games.outs-Seq left right)

  pub part_par : (left right : GameTree) → part_at (games.Par left right) step ≡ side_at left right step
  part_par left right = ap (λ form. part_of_form form step) (games.outs-Par left right)

  pub part_block : (at : ℕ) (block : BlockTree GameTree) → part_at (games.Block at block) step ≡ line_at block.lines step
  part_block at block = ap (λ form. part_of_form form step) (games.outs-Block at block)

  pub part_call : (at : ℕ) (name : List ℕ) (args : List ArgTree) → part_at (games.Call at name args) step ≡ None
  part_call at name args = ap (λ form. part_of_form form step) (games.outs-Call at name args)

  pub part_decision : (at : ℕ) (agent : AgentTree) (observes : List TyTree) (action : TyTree) (among : Option Among)
      → part_at (games.Decision at agent observes action among) step ≡ None
  part_decision at agent observes action among =
      ap (λ form. part_of_form form step) (games.outs-Decision at agent observes action among)

  pub part_nature : (at : ℕ) (observes : List TyTree) (outcome : TyTree) (rows : List RowTree)
      → part_at (games.Nature at observes outcome rows) step ≡ None
  part_nature at observes outcome rows = ap (λ form. part_of_form form step) (games.outs-Nature at observes outcome rows)

  pub part_forward : (at : ℕ) (params : List ParamTree) (results : List (ResultTree ExprTree))
      → part_at (games.Forward at params results) step ≡ None
  part_forward at params results = ap (λ form. part_of_form form step) (games.outs-Forward at params results)

  pub part_backward : (at : ℕ) (params : List ParamTree) (results : List (ResultTree ExprTree))
      → part_at (games.Backward at params results) step ≡ None
  part_backward at params results = ap (λ form. part_of_form form step) (games.outs-Backward at params results)

  pub part_identity : (at : ℕ) (forward backward : List TyTree) → part_at (games.Identity at forward backward) step ≡ None
  part_identity at forward backward = ap (λ form. part_of_form form step) (games.outs-Identity at forward backward)

  pub part_library : (at : ℕ) (name : NameTree) → part_at (games.Library at name) step ≡ None
  part_library at name = ap (λ form. part_of_form form step) (games.outs-Library at name)

  pub part_branch : (at : ℕ) (selector : TyTree) (arms : List (ArmTree GameTree))
      → part_at (games.Branch at selector arms) step ≡ None
  part_branch at selector arms = ap (λ form. part_of_form form step) (games.outs-Branch at selector arms)

pub ruleset parts = (part_seq, part_par, part_block, part_call, part_decision, part_nature, part_forward, part_backward, part_identity, part_library, part_branch)
