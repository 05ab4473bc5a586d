use Rattle.og_expr.proofs.Replacing.{value_renamed, type_renamed, nodes_renamed, height_renamed}
use Rattle.og_expr.proofs.laws.renaming.Goals as goal

pub returns-clause-value : goal.returns-clause-value
returns-clause-value c = value_renamed

pub returns-clause-types : goal.returns-clause-types
returns-clause-types c = type_renamed

pub returns-clause-nodes : goal.returns-clause-nodes
returns-clause-nodes c = nodes_renamed

pub returns-clause-heights : goal.returns-clause-heights
returns-clause-heights c = height_renamed
