use Rattle.og_expr.proofs.Occurrences.{all_is, variables_replaced, nodes_linear}
use Rattle.og_expr.proofs.laws.variables.Goals as goal

pub returns-clause-all : goal.returns-clause-all
returns-clause-all c = all_is

pub returns-clause-replaced : goal.returns-clause-replaced
returns-clause-replaced c = variables_replaced

pub returns-clause-nodes : goal.returns-clause-nodes
returns-clause-nodes c = nodes_linear
