-- What a definition by recursion on written games gives of a game of each form, and where a game begins.
use Rattle.std.proofs.Common.{◌≡◌, ◌∙◌, ℕ, map, refl, ap}
use Rattle.og_syntax.specs.declared.games.GameTree.{GameTree}
use Rattle.og_syntax.specs.declared.games.GameTree.TheOpen.{GameTree-F}
use Rattle.og_syntax.specs.declared.games.GameTree.TheOpen as forms
use Rattle.og_syntax.specs.declared.games.GameTree.TheViews.{out-GameTree}
use Rattle.og_syntax.specs.declared.games.GameTree.TheFolds.{fold-GameTree, fold_out-GameTree, map-GameTree}
use Rattle.og_syntax.specs.declared.games.BlockTree.{BlockTree}
use Rattle.og_syntax.specs.declared.games.LineTree.{LineTree}
use Rattle.og_syntax.specs.declared.games.ArmTree.{ArmTree}

abbrev pub line_with : {A B : Type 0} → (A → B) → LineTree A → LineTree B
line_with f line = record {
  inputs = line.inputs;
  feedback = line.feedback;
  operation = f line.operation;
  outputs = line.outputs;
  returns = line.returns;
}

abbrev pub block_with : {A B : Type 0} → (A → B) → BlockTree A → BlockTree B
block_with f block = record {
  inputs = block.inputs;
  feedback = block.feedback;
  lines = map (line_with f) block.lines;
  outputs = block.outputs;
  returns = block.returns;
}

abbrev pub arm_with : {A B : Type 0} → (A → B) → ArmTree A → ArmTree B
arm_with f arm = record { at = arm.at; key = arm.key; game = f arm.game }

-- the form with something in the place of each part
abbrev pub form_with : {A B : Type 0} → (A → B) → GameTree-F A → GameTree-F B
form_with f (forms.Call at name args) = forms.Call at name args
form_with f (forms.Seq left right) = forms.Seq (f left) (f right)
form_with f (forms.Par left right) = forms.Par (f left) (f right)
form_with f (forms.Block at block) = forms.Block at (block_with f block)
form_with f (forms.Decision at agent observes action among) = forms.Decision at agent observes action among
form_with f (forms.Nature at observes outcome rows) = forms.Nature at observes outcome rows
form_with f (forms.Forward at params results) = forms.Forward at params results
form_with f (forms.Backward at params results) = forms.Backward at params results
form_with f (forms.Identity at forward backward) = forms.Identity at forward backward
form_with f (forms.Library at name) = forms.Library at name
form_with f (forms.Branch at selector arms) = forms.Branch at selector (map (arm_with f) arms)

pub level : {A B : Type 0} (f : A → B) (form : GameTree-F A) → map-GameTree A B f form ≡ form_with f form
level f (forms.Call at name args) = refl
level f (forms.Seq left right) = refl
level f (forms.Par left right) = refl
level f (forms.Block at block) = refl
level f (forms.Decision at agent observes action among) = refl
level f (forms.Nature at observes outcome rows) = refl
level f (forms.Forward at params results) = refl
level f (forms.Backward at params results) = refl
level f (forms.Identity at forward backward) = refl
level f (forms.Library at name) = refl
level f (forms.Branch at selector arms) = refl

-- what a fold gives of a game, by its form
pub fold_of_form : {A : Type 0} (step : GameTree-F A → A) (g : GameTree)
    → fold-GameTree A step g ≡ step (form_with (fold-GameTree A step) (out-GameTree g))
fold_of_form {A} step g = fold_out-GameTree A step g ∙ ap step (level (fold-GameTree A step) (out-GameTree g))

-- the place of a form whose parts have places: a composition begins where its first part begins
abbrev pub place_rule : GameTree-F ℕ → ℕ
place_rule (forms.Call at name args) = at
place_rule (forms.Seq left right) = left
place_rule (forms.Par left right) = left
place_rule (forms.Block at block) = at
place_rule (forms.Decision at agent observes action among) = at
place_rule (forms.Nature at observes outcome rows) = at
place_rule (forms.Forward at params results) = at
place_rule (forms.Backward at params results) = at
place_rule (forms.Identity at forward backward) = at
place_rule (forms.Library at name) = at
place_rule (forms.Branch at selector arms) = at
