-- The enums that stand in a game, each with its count of cases: those in the types that are written in it, and those of
-- its expressions.
use Rattle.std.specs.Prelude.{ℕ, List, [], ◌∷◌, ◌++◌, map}
use Rattle.std.specs.List.{flat_map}
use Rattle.og_types.specs.declared.ty.Ty.{Ty}
use Rattle.og_types.specs.declared.ty.Ty.TheOpen.{Ty-F}
use Rattle.og_types.specs.declared.ty.Ty.TheOpen as one
use Rattle.og_types.specs.declared.ty.Ty.TheFolds.{fold-Ty}
use Rattle.og_expr.specs.declared.node.NodeOf.{NodeOf}
use Rattle.og_expr.specs.declared.node.NodeOf.TheVariants as forms
use Rattle.og_expr.specs.declared.node.Term.{Term}
use Rattle.og_expr.specs.declared.node.Term.TheFolds.{fold-Term}
use Rattle.og_expr.specs.Parts.{together}
use Rattle.og_native.specs.declared.ports.Ports.{Ports}
use Rattle.og_game.specs.declared.node.Typed.{Typed}
use Rattle.og_game.specs.declared.node.GameNodeOf.{GameNodeOf}
use Rattle.og_game.specs.declared.node.GameNodeOf.TheVariants as nodes
use Rattle.og_game.specs.declared.node.LineOf.{LineOf}
use Rattle.og_game.specs.declared.node.BlockOf.{BlockOf}
use Rattle.og_game.specs.declared.node.Plan.{Plan}
use Rattle.og_game.specs.declared.node.Plan.TheFolds.{fold-Plan}
use Rattle.og_game.specs.Parts.{parts}

-- an enum where it stands
pub record Occurrence : Type 0 where
  pub family : ℕ
  pub cases : ℕ

-- ---- in a type

abbrev pub type_step : Ty-F (List Occurrence) → List Occurrence
type_step (one.Enum family cases) = record { family = family; cases = cases } ∷ []
type_step (one.Tuple parts) = flat_map (λ those. those) parts
type_step t = []

abbrev pub in_type : Ty → List Occurrence
in_type = fold-Ty (List Occurrence) type_step

abbrev pub in_types : List Ty → List Occurrence
in_types = flat_map in_type

-- ---- in an expression

-- of a form without its parts
abbrev pub in_form : {A : Type 0} → NodeOf A → List Occurrence
in_form (forms.Case family cases index) = record { family = family; cases = cases } ∷ []
in_form (forms.Var number t) = in_type t
in_form (forms.Table keys rows) = in_types (map (λ key. key.ty) keys)
in_form n = []

abbrev pub in_expression : Term → List Occurrence
in_expression =
    fold-Term (List Occurrence) (λ level. in_form level.node ++ together [] (λ those others. those ++ others) level.node)

abbrev pub in_results : List Typed → List Occurrence
in_results = flat_map (λ r. in_expression r.expr ++ in_type r.ty)

-- ---- in a game

abbrev pub in_ports : Ports → List Occurrence
in_ports p = in_types p.inputs ++ in_types p.feedback ++ in_types p.outputs ++ in_types p.returns

-- of a block's line without its operation
abbrev pub in_line : {A : Type 0} → LineOf A → List Occurrence
in_line line = flat_map in_expression line.inputs ++ flat_map in_expression line.returns

abbrev pub in_block : {A : Type 0} → BlockOf A → List Occurrence
in_block block =
    in_types block.inputs ++ in_results block.feedback ++ flat_map in_line block.lines ++ in_results block.outputs
    ++ in_types block.returns

-- of a form without its parts
abbrev pub in_node : {A : Type 0} → GameNodeOf A → List Occurrence
in_node (nodes.Decision number agent observes action allowed) = in_types observes ++ in_type action
in_node (nodes.Nature number observes outcome scale rows) = in_types observes ++ in_type outcome
in_node (nodes.Forward params results) = in_types params ++ in_results results
in_node (nodes.Backward params results) = in_types params ++ in_results results
in_node (nodes.Native block ports) = in_ports ports
in_node (nodes.Id forward backward) = in_types forward ++ in_types backward
in_node (nodes.Seq left right) = []
in_node (nodes.Par left right) = []
in_node (nodes.Block block) = in_block block
in_node (nodes.Branch selector arms) = in_type selector

-- each where it stands
abbrev pub occurrences_of : Plan → List Occurrence
occurrences_of = fold-Plan (List Occurrence) (λ level. in_node level.node ++ flat_map (λ those. those) (parts level.node))
