-- How many decisions a game of each form has.
use Rattle.std.proofs.Common.{◌≡◌, ◌∙◌, List, ap}
use Rattle.std.specs.Prelude.{sum, sum_by}
use Rattle.std.proofs.lemmas.List.Sums.{sum-map}
use Rattle.og_game.specs.declared.node.GameNodeOf.{GameNodeOf}
use Rattle.og_game.specs.declared.node.GameNodeOf.TheVariants as nodes
use Rattle.og_game.specs.declared.node.BlockOf.{BlockOf}
use Rattle.og_game.specs.declared.node.ArmOf.{ArmOf}
use Rattle.og_game.specs.declared.node.Plan.{Plan}
use Rattle.og_types.specs.declared.ty.Ty.{Ty}
use Rattle.og_game.specs.Plans.{plan_of}
use Rattle.og_game.specs.Levels.{node_with, fold_of_node}
use Rattle.og_game.specs.Counts.{decisions_in, decisions_rule}
use Rattle.og_game.proofs.Mapped.{operations_with, games_with}

pub decisions_of_node : (n : GameNodeOf Plan) → decisions_in (plan_of n) ≡ decisions_rule (node_with decisions_in n)
decisions_of_node n = fold_of_node decisions_rule n

pub decisions_of_block : (block : BlockOf Plan)
    → decisions_in (plan_of (nodes.Block block)) ≡ sum_by (λ line. decisions_in line.operation) block.lines
decisions_of_block block =
    decisions_of_node (nodes.Block block) ∙ ap sum (operations_with decisions_in block.lines)
    ∙ sum-map (λ line. decisions_in line.operation) block.lines

pub decisions_of_branch : (selector : Ty) (arms : List (ArmOf Plan))
    → decisions_in (plan_of (nodes.Branch selector arms)) ≡ sum_by (λ arm. decisions_in arm.game) arms
decisions_of_branch selector arms =
    decisions_of_node (nodes.Branch selector arms) ∙ ap sum (games_with decisions_in arms)
    ∙ sum-map (λ arm. decisions_in arm.game) arms
