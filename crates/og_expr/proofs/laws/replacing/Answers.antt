use Rattle.og_expr.proofs.Replacing.{value_replaced, value_listed, nodes_replaced, height_replaced}
use Rattle.og_expr.proofs.Narrower.{type_replaced}
use Rattle.og_expr.proofs.Listed.{types_listed}
use Rattle.og_expr.specs.Types.{type_of, goes_as}
use Rattle.og_expr.proofs.laws.replacing.Goals as goal

pub returns-clause-value : goal.returns-clause-value
returns-clause-value c = value_replaced

pub returns-clause-listed : goal.returns-clause-listed
returns-clause-listed c = value_listed

pub returns-clause-nodes : goal.returns-clause-nodes
returns-clause-nodes c = nodes_replaced

pub returns-clause-heights : goal.returns-clause-heights
returns-clause-heights c = height_replaced

pub returns-clause-types : goal.returns-clause-types
returns-clause-types c trees = type_replaced trees (λ number u. goes_as u (type_of (trees number u))) (λ number u fits bounds. fits)

pub returns-clause-listed_types : goal.returns-clause-listed_types
returns-clause-listed_types c = types_listed
