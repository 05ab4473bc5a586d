-- The ports of a game. `ports_rule` is the rule for one form, whose parts have their ports already, or none.
use Rattle.std.specs.Prelude.{ℕ, ◌+◌, ◌^◌, ◌==◌, nat_le, nat_lt, Bool, true, false, ◌&&◌, not, if◌then◌else◌, List, [], ◌∷◌, ◌++◌, map, length, Option, Some, None, option_and_then}
use Rattle.std.specs.List.{list_all}
use Rattle.std.specs.Cmp.Lexicographic.{pointwise}
use Rattle.og_types.specs.declared.ty.Ty.{Ty}
use Rattle.og_types.specs.declared.ty.Ty.TheVariants as ty
use Rattle.og_types.specs.Ty.{is_finite}
use Rattle.og_types.specs.Values.{values_of, joint_values_of}
use Rattle.og_native.specs.declared.ports.Ports.{Ports}
use Rattle.og_native.specs.Ports.{is_wire, same_types, same_ports}
use Rattle.og_native.specs.Ports as size
use Rattle.og_game.specs.declared.node.GameNodeOf.{GameNodeOf}
use Rattle.og_game.specs.declared.node.GameNodeOf.TheVariants as nodes
use Rattle.og_game.specs.declared.node.BlockOf.{BlockOf}
use Rattle.og_game.specs.declared.node.LineOf.{LineOf}
use Rattle.og_game.specs.declared.node.ArmOf.{ArmOf}
use Rattle.og_game.specs.declared.node.Plan.{Plan}
use Rattle.og_game.specs.declared.node.Plan.TheFolds.{fold-Plan}
use Rattle.og_game.specs.declared.node.Typed.{Typed}
use Rattle.og_game.specs.declared.scope.Variable.{Variable}
use Rattle.og_game.specs.Rows.{are_allowed, are_rows}
use Rattle.og_game.specs.declared.scope.Stand.TheVariants.{Before, Behind, Anywhere}
use Rattle.og_game.specs.Scopes.{goes_in, is_result, of_params, block_variables, whence, seen}

abbrev pub ports_if : Bool → Ports → Option Ports
ports_if holds ports = if holds then Some ports else None

-- ---- types

-- at most 8 high and of at most 32 nodes
abbrev pub is_small : Ty → Bool
is_small t = nat_le (size.height t) 8 && nat_le (size.nodes t) 32

-- at most 4,096 values, if it is finite
abbrev pub has_few_values : Ty → Bool
has_few_values t = if is_finite t then nat_le (length (values_of t)) 4096 else true

abbrev pub are_wires : List Ty → Bool
are_wires = list_all is_wire

-- at most 256 on a side
abbrev pub are_few : List Ty → Bool
are_few ts = nat_le (length ts) 256

abbrev pub are_few_wires : List Ty → Bool
are_few_wires ts = are_few ts && are_wires ts

-- finite types, of at most 4,096 joint observations
abbrev pub are_observed : List Ty → Bool
are_observed ts =
    are_wires ts && (list_all is_finite ts && nat_le (length (joint_values_of ts)) 4096)

-- a finite type
abbrev pub is_chosen : Ty → Bool
is_chosen t = is_wire t && is_finite t

abbrev pub observations : List Ty → ℕ
observations ts = length (joint_values_of ts)

abbrev pub values : Ty → ℕ
values t = length (values_of t)

abbrev pub number_if : Bool → ℕ → Option ℕ
number_if holds n = if holds then Some n else None

abbrev pub written : List Typed → List Ty
written results = map (λ r. r.ty) results

-- each side
abbrev pub are_sides : Ports → Bool
are_sides ports =
    (are_few_wires ports.inputs && are_few_wires ports.feedback)
    && (are_few_wires ports.outputs && are_few_wires ports.returns)

-- ---- atoms

abbrev pub is_decision : List Ty → Ty → Option (List (List ℕ)) → Bool
is_decision observes action allowed =
    (are_observed observes && is_chosen action) && are_allowed (observations observes) (values action) allowed

-- The payoff comes back.
abbrev pub decision_ports : List Ty → Ty → Ports
decision_ports observes action =
    record { inputs = observes; feedback = []; outputs = action ∷ []; returns = ty.Number ∷ [] }

abbrev pub is_nature : List Ty → Ty → ℕ → List (List (ℕ × ℕ)) → Bool
is_nature observes outcome scale rows =
    (are_observed observes && is_chosen outcome)
    && ((nat_lt 0 scale && nat_lt scale (2 ^ 62)) && are_rows (observations observes) (values outcome) scale rows)

abbrev pub nature_ports : List Ty → Ty → Ports
nature_ports observes outcome = record { inputs = observes; feedback = []; outputs = outcome ∷ []; returns = [] }

-- expressions of the parameters
abbrev pub is_function : List Ty → List Typed → Bool
is_function params results = are_wires params && list_all (is_result (of_params params)) results

abbrev pub forward_ports : List Ty → List Typed → Ports
forward_ports params results = record { inputs = params; feedback = []; outputs = written results; returns = [] }

abbrev pub backward_ports : List Ty → List Typed → Ports
backward_ports params results = record { inputs = []; feedback = written results; outputs = []; returns = params }

abbrev pub identity_ports : List Ty → List Ty → Ports
identity_ports forward backward =
    record { inputs = forward; feedback = backward; outputs = forward; returns = backward }

-- ---- compositions

-- What goes out of the left on both sides goes into the right.
abbrev pub do_meet : Ports → Ports → Bool
do_meet p q = same_types p.outputs q.inputs && same_types q.feedback p.returns

abbrev pub through : Ports → Ports → Ports
through p q = record { inputs = p.inputs; feedback = p.feedback; outputs = q.outputs; returns = q.returns }

abbrev pub beside : Ports → Ports → Ports
beside p q = record {
  inputs = p.inputs ++ q.inputs;
  feedback = p.feedback ++ q.feedback;
  outputs = p.outputs ++ q.outputs;
  returns = p.returns ++ q.returns;
}

-- what two ports give, where both are there
abbrev pub of_both : (Ports → Ports → Option Ports) → Option Ports → Option Ports → Option Ports
of_both rule None right = None
of_both rule (Some p) None = None
of_both rule (Some p) (Some q) = rule p q

-- ---- blocks

-- The numbers follow each other from the first.
abbrev pub are_next : ℕ → List ℕ → Bool
are_next n [] = true
are_next n (m ∷ ms) = (m == n) && are_next (n + 1) ms

-- The variables are the next ones, one for each type.
abbrev pub are_variables : ℕ → List ℕ → List Ty → Bool
are_variables n numbers ts = (length numbers == length ts) && are_next n numbers

-- The line with number `k`, whose first variable is `n`, goes with its operation's ports.
abbrev pub goes_with : {A : Type 0} → List Variable → ℕ → ℕ → LineOf A → Option Ports → Bool
goes_with variables k n line None = false
goes_with variables k n line (Some p) =
    (pointwise (goes_in (seen variables (whence (Before k)))) line.inputs p.inputs
    && are_variables n line.feedback p.feedback)
    && (are_variables (n + length p.feedback) line.outputs p.outputs
    && pointwise (goes_in (seen variables (whence (Behind k)))) line.returns p.returns)

-- the first variable behind a line's
abbrev pub behind : ℕ → Option Ports → ℕ
behind n None = n
behind n (Some p) = n + (length p.feedback + length p.outputs)

abbrev pub are_lines : List Variable → ℕ → ℕ → List (LineOf (Option Ports)) → Bool
are_lines variables k n [] = true
are_lines variables k n (line ∷ lines) =
    goes_with variables k n line line.operation && are_lines variables (k + 1) (behind n line.operation) lines

-- The block has these variables and so many lines.
abbrev pub is_block : List Variable → ℕ → BlockOf (Option Ports) → Bool
is_block variables lines block =
    ((are_wires block.inputs && are_wires block.returns) && are_lines variables 0 (length block.inputs) block.lines)
    && (list_all (is_result (seen variables (whence (Before lines)))) block.outputs
    && list_all (is_result (seen variables (whence Anywhere))) block.feedback)

abbrev pub block_ports : {A : Type 0} → BlockOf A → Ports
block_ports block = record {
  inputs = block.inputs;
  feedback = written block.feedback;
  outputs = written block.outputs;
  returns = block.returns;
}

-- ---- branches

-- No number stands twice.
abbrev pub differ : List ℕ → Bool
differ [] = true
differ (n ∷ ns) = list_all (λ m. not (m == n)) ns && differ ns

-- each rank below the count, once
abbrev pub are_keys : ℕ → List ℕ → Bool
are_keys count keys = (length keys == count) && (list_all (λ k. nat_lt k count) keys && differ keys)

-- the selector first
abbrev pub selected : Ty → Ports → Ports
selected selector p = record {
  inputs = selector ∷ p.inputs;
  feedback = p.feedback;
  outputs = p.outputs;
  returns = p.returns;
}

abbrev pub have_few : Ports → Bool
have_few p = (are_few p.inputs && are_few p.feedback) && (are_few p.outputs && are_few p.returns)

abbrev pub has_ports : Ports → Option Ports → Bool
has_ports p None = false
has_ports p (Some q) = same_ports p q

-- There is an arm for each of the selector's values, and all arms have these ports.
abbrev pub is_branch : Ty → List (ArmOf (Option Ports)) → Ports → Bool
is_branch selector arms p =
    (is_chosen selector && are_keys (values selector) (map (λ arm. arm.key) arms))
    && (list_all (λ arm. has_ports p arm.game) arms && have_few (selected selector p))

-- The ports are those of the first arm; there is one, since a type of a wire has a value.
abbrev pub branch_rule : Ty → List (ArmOf (Option Ports)) → Option Ports
branch_rule selector [] = None
branch_rule selector (arm ∷ arms) =
    option_and_then (λ p. ports_if (is_branch selector (arm ∷ arms) p) (selected selector p)) arm.game

-- ---- the table of rules

abbrev pub ports_rule : GameNodeOf (Option Ports) → Option Ports
ports_rule (nodes.Decision number agent observes action allowed) =
    ports_if (is_decision observes action allowed) (decision_ports observes action)
ports_rule (nodes.Nature number observes outcome scale rows) =
    ports_if (is_nature observes outcome scale rows) (nature_ports observes outcome)
ports_rule (nodes.Forward params results) = ports_if (is_function params results) (forward_ports params results)
ports_rule (nodes.Backward params results) = ports_if (is_function params results) (backward_ports params results)
ports_rule (nodes.Native block ports) = ports_if (are_sides ports) ports
ports_rule (nodes.Id forward backward) =
    ports_if (are_wires forward && are_wires backward) (identity_ports forward backward)
ports_rule (nodes.Seq left right) = of_both (λ p q. ports_if (do_meet p q) (through p q)) left right
ports_rule (nodes.Par left right) = of_both (λ p q. Some (beside p q)) left right
ports_rule (nodes.Block block) = ports_if (is_block (block_variables block) (length block.lines) block) (block_ports block)
ports_rule (nodes.Branch selector arms) = branch_rule selector arms

-- the ports of a game, where it is well wired
abbrev pub ports_of : Plan → Option Ports
ports_of = fold-Plan (Option Ports) (λ level. ports_rule level.node)
