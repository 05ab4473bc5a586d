-- What the ports of a game of each form are.
use Rattle.std.proofs.Common.{◌≡◌, ◌∙◌, List, [], ◌∷◌, map, length, refl, ap}
use Rattle.std.specs.Prelude.{Some, None, option_and_then, slice_get}
use Rattle.std.proofs.lemmas.List.{length-map}
use Rattle.og_types.specs.declared.ty.Ty.{Ty}
use Rattle.og_native.specs.declared.ports.Ports.{Ports}
use Rattle.og_game.specs.declared.node.GameNodeOf.TheVariants as nodes
use Rattle.og_game.specs.declared.node.BlockOf.{BlockOf}
use Rattle.og_game.specs.declared.node.ArmOf.{ArmOf}
use Rattle.og_game.specs.Scopes.{block_variables}
use Rattle.og_game.specs.declared.node.GameNodeOf.{GameNodeOf}
use Rattle.og_game.specs.declared.node.Plan.{Plan}
use Rattle.og_game.specs.Plans.{plan_of}
use Rattle.og_game.specs.Wired.{ports_of, ports_rule, ports_if, is_block, block_ports, selected, is_branch, branch_rule}
use Rattle.og_game.specs.Levels.{node_with, block_with, line_with, arm_with, fold_of_node}

pub ports_of_node : (n : GameNodeOf Plan) → ports_of (plan_of n) ≡ ports_rule (node_with ports_of n)
ports_of_node n = fold_of_node ports_rule n

pub block_node : (block : BlockOf Plan) → ports_of (plan_of (nodes.Block block))
    ≡ ports_if (is_block (block_variables (block_with ports_of block)) (length block.lines) (block_with ports_of block))
    (block_ports block)
block_node block =
    let b = block_with ports_of block in
    ports_of_node (nodes.Block block)
    ∙ ap (λ n. ports_if (is_block (block_variables b) n b) (block_ports block)) (length-map block.lines (line_with ports_of))

pub keys_kept : {A B : Type 0} (f : A → B) (arms : List (ArmOf A))
    → map (λ arm. arm.key) (map (arm_with f) arms) ≡ map (λ arm. arm.key) arms
keys_kept f [] = refl
keys_kept f (arm ∷ arms) = ap (λ keys. arm.key ∷ keys) (keys_kept f arms)

some_same : {A : Type 0} (a b : A) → Some a ≡ Some b → a ≡ b
some_same a b e = cc

pub first_arm : (selector : Ty) (arms : List (ArmOf Plan)) (arm : ArmOf Plan) (p : Ports)
    → slice_get arms 0 ≡ Some arm → ports_of arm.game ≡ Some p → branch_rule selector (map (arm_with ports_of) arms)
    ≡ ports_if (is_branch selector (map (arm_with ports_of) arms) p) (selected selector p)
first_arm selector [] arm p at is = absurd (cc)
first_arm selector (a ∷ arms) arm p at is =
    ap (option_and_then (λ q. ports_if (is_branch selector (map (arm_with ports_of) (a ∷ arms)) q) (selected selector q)))
    (ap (λ b. ports_of b.game) (some_same a arm at) ∙ is)

pub no_arm : (selector : Ty) (arms : List (ArmOf Plan)) → slice_get arms 0 ≡ None
    → branch_rule selector (map (arm_with ports_of) arms) ≡ None
no_arm selector [] at = refl
no_arm selector (a ∷ arms) at = absurd (cc)
