-- Trees in the place of variables, other numbers for variables, and how large an expression is whose variables stand for trees.
use Rattle.std.specs.Prelude.{ℕ, ◌+◌, Bool, true, List, Option, Some, None, slice_get, unwrap_or}
use Rattle.og_types.specs.declared.ty.Ty.{Ty}
use Rattle.og_expr.specs.declared.node.NodeOf.TheVariants as nodes
use Rattle.og_expr.specs.declared.node.Term.{Term}
use Rattle.og_expr.specs.declared.node.Term.TheFolds.{fold-Term}
use Rattle.og_expr.specs.Terms.{term_of}
use Rattle.og_expr.specs.Types.{type_of, goes_as}
use Rattle.og_expr.specs.Variables.{at_variables}
use Rattle.og_expr.specs.Counts.{nodes_below, height_below}

-- a variable, by its number and its type
abbrev pub variable : ℕ → Ty → Term
variable number t = term_of (nodes.Var number t)

-- the expression with a tree in the place of each variable
abbrev pub replaced : (ℕ → Ty → Term) → Term → Term
replaced trees = fold-Term Term (λ level. at_variables trees term_of level.node)

-- with another number for each variable
abbrev pub renamed : (ℕ → ℕ) → Term → Term
renamed f = replaced (λ number t. variable (f number) t)

-- the list's tree for a variable by its number, and the variable itself behind the list's end
abbrev pub tree_at : List Term → ℕ → Ty → Term
tree_at trees number t = unwrap_or (slice_get trees number) (variable number t)

-- The tree's type fits, where there is a tree.
abbrev pub fits_as : Option Term → Ty → Bool
fits_as None t = true
fits_as (Some tree) t = goes_as t (type_of tree)

-- The list's tree for a variable goes in its place.
abbrev pub takes : List Term → ℕ → Ty → Bool
takes trees number t = fits_as (slice_get trees number) t

-- how many nodes an expression has where each variable counts as many
abbrev pub nodes_with : (ℕ → Ty → ℕ) → Term → ℕ
nodes_with many = fold-Term ℕ (λ level. at_variables many (λ n. nodes_below n + 1) level.node)

-- how high an expression is where each variable is so high
abbrev pub height_with : (ℕ → Ty → ℕ) → Term → ℕ
height_with heights = fold-Term ℕ (λ level. at_variables heights (λ n. height_below n + 1) level.node)
