use Rattle.std.proofs.Common.{◌∙◌, sym, rules}
use Rattle.og_types.specs.Values.{joint_values_of}
use Rattle.og_types.proofs.ValuesOf.{take_goes}
use Rattle.og_types.proofs.values.joint_values.Goals as goal

pub ranks-preserved : goal.ranks-preserved
ranks-preserved c = take_goes (joint_values_of c.args.types.now) c.ranks.all c.add.new.self c.ranks.rank c.in-Some.values c.ranks.invariant (search rules) (sym c.in-Some.is ∙ c.in_ok-values.ensures)
