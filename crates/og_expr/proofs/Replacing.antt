-- What replacing and renaming variables do to the value, the type and the size of an expression.
use Rattle.std.proofs.Common.{◌≡◌, ◌∙◌, ℕ, ◌+◌, refl, ap, sym}
use Rattle.std.specs.Prelude.{List, Option, Some, None, slice_get, unwrap_or}
use Rattle.std.specs.Option.{option_map}
use Rattle.og_types.specs.declared.ty.Ty.{Ty}
use Rattle.og_types.specs.declared.value.Value.{Value}
use Rattle.og_types.specs.Ty.{bounds_fit}
use Rattle.og_expr.specs.declared.node.NodeOf.{NodeOf}
use Rattle.og_expr.specs.declared.node.NodeOf.TheVariants as nodes
use Rattle.og_expr.specs.declared.node.Term.{Term}
use Rattle.og_expr.specs.declared.node.Term.TheFolds.{fold-Term}
use Rattle.og_expr.specs.Terms.{term_of}
use Rattle.og_expr.specs.Levels.{node_with, fold_of_node}
use Rattle.og_expr.specs.Types.{type_of, type_rule, typed_if}
use Rattle.og_expr.specs.Counts.{nodes_of, nodes_below, height_of, height_below}
use Rattle.og_expr.specs.Values.{Env, value_in, value_rule}
use Rattle.og_expr.specs.Variables.{at_variables}
use Rattle.og_expr.specs.Replaced.{variable, replaced, renamed, tree_at, nodes_with, height_with}
use Rattle.og_expr.proofs.Induction.{term_induction, agree, twice}

-- what is made of an expression by a rule for one form
abbrev pub by_rule : {A : Type 0} → (NodeOf A → A) → Term → A
by_rule {A} rule = fold-Term A (λ level. rule level.node)

-- rules that agree on each form make the same
pub same_rule : {A : Type 0} (rule other : NodeOf A → A) → ((n : NodeOf A) → rule n ≡ other n) → (e : Term)
    → by_rule rule e ≡ by_rule other e
same_rule rule other same e = ap (λ r. by_rule r e) (λ i n. same n i)

-- what a rule makes of an expression that another rule has built: what a third makes of the expression, if it does so at each form
built_by : {A : Type 0} (build : NodeOf Term → Term) (rule through : NodeOf A → A)
    → ((n : NodeOf Term) → by_rule rule (build n) ≡ through (node_with (by_rule rule) n)) → (e : Term)
    → by_rule rule (by_rule build e) ≡ by_rule through e
built_by build rule through at_form = term_induction (λ e. by_rule rule (by_rule build e) ≡ by_rule through e) (λ n same.
    ap (by_rule rule) (fold_of_node build n) ∙ at_form (node_with (by_rule build) n)
    ∙ ap through (twice (by_rule rule) (by_rule build) n ∙ agree (λ e. by_rule rule (by_rule build e)) (by_rule through) n same)
    ∙ sym (fold_of_node through n))

at_form_of : {A : Type 0} (trees : ℕ → Ty → Term) (rule : NodeOf A → A) (of_variable : ℕ → Ty → A)
    → ((number : ℕ) (t : Ty) → by_rule rule (trees number t) ≡ of_variable number t) → (n : NodeOf Term)
    → by_rule rule (at_variables trees term_of n) ≡ at_variables of_variable rule (node_with (by_rule rule) n)
at_form_of trees rule of_variable same (nodes.Var number t) = same number t
at_form_of trees rule of_variable same n = fold_of_node rule n

-- what a rule makes of an expression with trees for its variables
pub with_trees : {A : Type 0} (trees : ℕ → Ty → Term) (rule : NodeOf A → A) (of_variable : ℕ → Ty → A)
    → ((number : ℕ) (t : Ty) → by_rule rule (trees number t) ≡ of_variable number t) → (e : Term)
    → by_rule rule (by_rule (at_variables trees term_of) e) ≡ by_rule (at_variables of_variable rule) e
with_trees trees rule of_variable same =
    built_by (at_variables trees term_of) rule (at_variables of_variable rule) (at_form_of trees rule of_variable same)

-- a rule that is the same at variables
pub unchanged : {A : Type 0} (of_variable : ℕ → Ty → A) (rule : NodeOf A → A)
    → ((number : ℕ) (t : Ty) → of_variable number t ≡ rule (nodes.Var number t)) → (n : NodeOf A)
    → at_variables of_variable rule n ≡ rule n
unchanged of_variable rule same (nodes.Var number t) = same number t
unchanged of_variable rule same n = refl

-- what the variables have decides nothing at other forms
pub value_rules : (env other : Env) (n : NodeOf (Option Value))
    → at_variables (λ number t. env number) (value_rule other) n ≡ value_rule env n
value_rules env other (nodes.Var number t) = refl
value_rules env other n = refl

-- ---- replacing

pub value_replaced : (trees : ℕ → Ty → Term) (env other : Env) (e : Term)
    → ((number : ℕ) (t : Ty) → value_in env (trees number t) ≡ other number)
    → value_in env (replaced trees e) ≡ value_in other e
value_replaced trees env other e same =
    with_trees trees (value_rule env) (λ number t. other number) same e
    ∙ same_rule (at_variables (λ number t. other number) (value_rule env)) (value_rule other) (value_rules other env) e

value_of_variable : (env : Env) (number : ℕ) (t : Ty) → value_in env (variable number t) ≡ env number
value_of_variable env number t = fold_of_node (value_rule env) (nodes.Var number t)

value_at : (env : Env) (tree : Option Term) (number : ℕ) (t : Ty)
    → value_in env (unwrap_or tree (variable number t)) ≡ unwrap_or (option_map (value_in env) tree) (env number)
value_at env None number t = value_of_variable env number t
value_at env (Some tree) number t = refl

pub value_listed : (trees : List Term) (env : Env) (e : Term) → value_in env (replaced (tree_at trees) e)
    ≡ value_in (λ number. unwrap_or (option_map (value_in env) (slice_get trees number)) (env number)) e
value_listed trees env e =
    value_replaced (tree_at trees) env (λ number. unwrap_or (option_map (value_in env) (slice_get trees number)) (env number)) e
    (λ number t. value_at env (slice_get trees number) number t)

pub nodes_replaced : (trees : ℕ → Ty → Term) (e : Term)
    → nodes_of (replaced trees e) ≡ nodes_with (λ number t. nodes_of (trees number t)) e
nodes_replaced trees =
    with_trees trees (λ n. nodes_below n + 1) (λ number t. nodes_of (trees number t)) (λ number t. refl)

pub height_replaced : (trees : ℕ → Ty → Term) (e : Term)
    → height_of (replaced trees e) ≡ height_with (λ number t. height_of (trees number t)) e
height_replaced trees =
    with_trees trees (λ n. height_below n + 1) (λ number t. height_of (trees number t)) (λ number t. refl)

-- ---- renaming

pub value_renamed : (f : ℕ → ℕ) (env : Env) (e : Term) → value_in env (renamed f e) ≡ value_in (λ n. env (f n)) e
value_renamed f env e =
    value_replaced (λ number t. variable (f number) t) env (λ n. env (f n)) e (λ number t. value_of_variable env (f number) t)

-- what a rule makes of a variable whatever its number
renamed_same : {A : Type 0} (rule : NodeOf A → A) (of_variable : Ty → A)
    → ((number : ℕ) (t : Ty) → rule (nodes.Var number t) ≡ of_variable t) → (f : ℕ → ℕ) (e : Term)
    → by_rule rule (renamed f e) ≡ by_rule rule e
renamed_same rule of_variable same f e =
    with_trees (λ number t. variable (f number) t) rule (λ number t. of_variable t)
    (λ number t. fold_of_node rule (nodes.Var (f number) t) ∙ same (f number) t) e
    ∙ same_rule (at_variables (λ number t. of_variable t) rule) rule
    (unchanged (λ number t. of_variable t) rule (λ number t. sym (same number t))) e

pub type_renamed : (f : ℕ → ℕ) (e : Term) → type_of (renamed f e) ≡ type_of e
type_renamed = renamed_same type_rule (λ t. typed_if (bounds_fit t) t) (λ number t. refl)

pub nodes_renamed : (f : ℕ → ℕ) (e : Term) → nodes_of (renamed f e) ≡ nodes_of e
nodes_renamed = renamed_same (λ n. nodes_below n + 1) (λ t. 1) (λ number t. refl)

pub height_renamed : (f : ℕ → ℕ) (e : Term) → height_of (renamed f e) ≡ height_of e
height_renamed = renamed_same (λ n. height_below n + 1) (λ t. 1) (λ number t. refl)
