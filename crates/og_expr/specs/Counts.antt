-- How large an expression is: its nodes and its height.
use Rattle.std.specs.Prelude.{ℕ, ◌+◌, ◌*◌, ◌-◌, ◌^◌, min, max, length}
use Rattle.og_expr.specs.declared.node.NodeOf.{NodeOf}
use Rattle.og_expr.specs.declared.node.NodeOf.TheVariants as nodes
use Rattle.og_expr.specs.declared.node.Term.{Term}
use Rattle.og_expr.specs.declared.node.Term.TheFolds.{fold-Term}
use Rattle.og_expr.specs.Parts.{together}

abbrev pub plus : ℕ → ℕ → ℕ
plus m n = m + n

-- the values of a table's keys in its rows
abbrev pub key_values : {A : Type 0} → NodeOf A → ℕ
key_values (nodes.Table keys rows) = length rows * length keys
key_values n = 0

-- the nodes below one; each value of a table's key counts as one
abbrev pub nodes_below : NodeOf ℕ → ℕ
nodes_below n = together 0 plus n + key_values n

-- how many nodes an expression has
abbrev pub nodes_of : Term → ℕ
nodes_of = fold-Term ℕ (λ level. nodes_below level.node + 1)

-- the greatest height of a part, and 0 where there is none; a value of a table's key is no part
abbrev pub height_below : NodeOf ℕ → ℕ
height_below = together 0 max

-- how high an expression is: 1 at a leaf, and one more than its highest part elsewhere
abbrev pub height_of : Term → ℕ
height_of = fold-Term ℕ (λ level. height_below level.node + 1)

-- a count that stands still at 2^32 - 1
abbrev pub capped : ℕ → ℕ
capped n = min n (2 ^ 32 - 1)
