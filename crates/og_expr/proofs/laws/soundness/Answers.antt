use Rattle.og_expr.proofs.Soundness.{sound}
use Rattle.og_expr.proofs.Narrower.{type_bounds}
use Rattle.og_expr.proofs.laws.soundness.Goals as goal

pub returns-clause-values : goal.returns-clause-values
returns-clause-values c = sound

pub returns-clause-bounds : goal.returns-clause-bounds
returns-clause-bounds c = type_bounds
