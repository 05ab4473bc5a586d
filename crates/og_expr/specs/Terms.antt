-- Expressions as contracts see them.
use Rattle.og_expr.specs.declared.node.NodeOf.{NodeOf}
use Rattle.og_expr.specs.declared.node.Term.{Term}
use Rattle.og_expr.specs.declared.node.Term.TheViews.{roll-Term}

-- the expression of a form over expressions
abbrev pub term_of : NodeOf Term → Term
term_of n = roll-Term (record { node = n })
