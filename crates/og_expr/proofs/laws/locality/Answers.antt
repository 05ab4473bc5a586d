use Rattle.og_expr.proofs.Locality.{value_local, replaced_local}
use Rattle.og_expr.proofs.laws.locality.Goals as goal

pub returns-clause-value : goal.returns-clause-value
returns-clause-value c = value_local

pub returns-clause-replaced : goal.returns-clause-replaced
returns-clause-replaced c = replaced_local
