-- What a definition by recursion on games gives of a game of each form.
use Rattle.std.proofs.Common.{◌≡◌, ◌∙◌, map, refl, ap}
use Rattle.og_game.specs.declared.node.GameNodeOf.{GameNodeOf}
use Rattle.og_game.specs.declared.node.GameNodeOf.TheVariants as nodes
use Rattle.og_game.specs.declared.node.BlockOf.{BlockOf}
use Rattle.og_game.specs.declared.node.LineOf.{LineOf}
use Rattle.og_game.specs.declared.node.ArmOf.{ArmOf}
use Rattle.og_game.specs.declared.node.Plan.{Plan}
use Rattle.og_game.specs.declared.node.Plan.TheFolds.{fold-Plan, fold-roll-Plan, map-Plan}
use Rattle.og_game.specs.Plans.{plan_of}

abbrev pub line_with : {A B : Type 0} → (A → B) → LineOf A → LineOf B
line_with f line = record {
  inputs = line.inputs;
  feedback = line.feedback;
  operation = f line.operation;
  outputs = line.outputs;
  returns = line.returns;
}

abbrev pub block_with : {A B : Type 0} → (A → B) → BlockOf A → BlockOf B
block_with f block = record {
  inputs = block.inputs;
  feedback = block.feedback;
  lines = map (line_with f) block.lines;
  outputs = block.outputs;
  returns = block.returns;
}

abbrev pub arm_with : {A B : Type 0} → (A → B) → ArmOf A → ArmOf B
arm_with f arm = record { key = arm.key; game = f arm.game }

-- the form with something in the place of each part
abbrev pub node_with : {A B : Type 0} → (A → B) → GameNodeOf A → GameNodeOf B
node_with f (nodes.Decision number agent observes action allowed) = nodes.Decision number agent observes action allowed
node_with f (nodes.Nature number observes outcome scale rows) = nodes.Nature number observes outcome scale rows
node_with f (nodes.Forward params results) = nodes.Forward params results
node_with f (nodes.Backward params results) = nodes.Backward params results
node_with f (nodes.Native block ports) = nodes.Native block ports
node_with f (nodes.Id forward backward) = nodes.Id forward backward
node_with f (nodes.Seq left right) = nodes.Seq (f left) (f right)
node_with f (nodes.Par left right) = nodes.Par (f left) (f right)
node_with f (nodes.Block block) = nodes.Block (block_with f block)
node_with f (nodes.Branch selector arms) = nodes.Branch selector (map (arm_with f) arms)

pub level : {A B : Type 0} (f : A → B) (n : GameNodeOf A)
    → (map-Plan A B f (record { node = n })).node ≡ node_with f n
level f (nodes.Decision number agent observes action allowed) = refl
level f (nodes.Nature number observes outcome scale rows) = refl
level f (nodes.Forward params results) = refl
level f (nodes.Backward params results) = refl
level f (nodes.Native block ports) = refl
level f (nodes.Id forward backward) = refl
level f (nodes.Seq left right) = refl
level f (nodes.Par left right) = refl
level f (nodes.Block block) = refl
level f (nodes.Branch selector arms) = refl

pub fold_of_node : {A : Type 0} (step : GameNodeOf A → A) (n : GameNodeOf Plan)
    → fold-Plan A (λ l. step l.node) (plan_of n) ≡ step (node_with (fold-Plan A (λ l. step l.node)) n)
fold_of_node {A} step n =
    fold-roll-Plan A (λ l. step l.node) (record { node = n }) ∙ ap step (level (fold-Plan A (λ l. step l.node)) n)
