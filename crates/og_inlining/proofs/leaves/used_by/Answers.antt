use Rattle.og_expr.specs.Variables.{numbers_of}
use Rattle.og_inlining.proofs.Occurring.{used_same}
use Rattle.og_inlining.proofs.leaves.used_by.Goals as goal

pub returns : goal.returns
returns c = used_same c.variables.result (numbers_of c.args.body.now) c.variables.ensures.each
