-- What the definitions give of an expression of each form.
use Rattle.std.proofs.Common.{◌≡◌, ◌+◌, true, List, [], ◌∷◌, map, refl}
use Rattle.std.specs.Prelude.{Option, Some, None, ◌&&◌}
use Rattle.std.specs.List.{list_all}
use Rattle.std.proofs.lemmas.Bool.{and_parts, and_from}
use Rattle.og_types.specs.Ty.{is_finite, bounds_fit}
use Rattle.og_expr.specs.declared.node.Key.{Key}
use Rattle.og_types.specs.declared.ty.Ty.{Ty}
use Rattle.og_expr.specs.declared.node.NodeOf.{NodeOf}
use Rattle.og_expr.specs.declared.node.Term.{Term}
use Rattle.og_expr.specs.Terms.{term_of}
use Rattle.og_expr.specs.Types.{type_of, type_rule, goes_as, key_fits}
use Rattle.og_expr.specs.Counts.{nodes_of, nodes_below, height_of, height_below}
use Rattle.og_expr.specs.Values.{Env, value_in, value_rule}
use Rattle.og_expr.specs.Variables.{at_variables, as_variable}
use Rattle.og_expr.specs.Levels.{node_with, fold_of_node}

pub type_of_node : (n : NodeOf Term) → type_of (term_of n) ≡ type_rule (node_with type_of n)
type_of_node n = fold_of_node type_rule n

pub nodes_of_node : (n : NodeOf Term) → nodes_of (term_of n) ≡ nodes_below (node_with nodes_of n) + 1
nodes_of_node n = fold_of_node (λ level. nodes_below level + 1) n

pub height_of_node : (n : NodeOf Term) → height_of (term_of n) ≡ height_below (node_with height_of n) + 1
height_of_node n = fold_of_node (λ level. height_below level + 1) n

-- the types in which fitting keys are looked up are finite
pub keys_finite : (keys : List (Key (Option Ty))) → list_all key_fits keys ≡ true → list_all is_finite (map (λ key. key.ty) keys) ≡ true
keys_finite [] all = refl
keys_finite (key ∷ keys) all =
    let both = and_parts (key_fits key) (list_all key_fits keys) all in
    let here = and_parts (goes_as key.ty key.expr) (is_finite key.ty && bounds_fit key.ty) both.0 in
    let finite = and_parts (is_finite key.ty) (bounds_fit key.ty) here.1 in
    and_from (is_finite key.ty) (list_all is_finite (map (λ k. k.ty) keys)) finite.0 (keys_finite keys both.1)

pub value_in_node : (env : Env) (n : NodeOf Term) → value_in env (term_of n) ≡ value_rule env (node_with (value_in env) n)
value_in_node env n = fold_of_node (value_rule env) n

pub as_variable_node : (n : NodeOf Term)
    → as_variable (term_of n) ≡ at_variables (λ number t. Some number) (λ n. None) (node_with as_variable n)
as_variable_node n = fold_of_node (at_variables (λ number t. Some number) (λ n. None)) n
