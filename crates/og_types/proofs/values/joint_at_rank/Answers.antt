use Rattle.og_types.specs.Values.{joint_values_of}
use Rattle.og_types.proofs.ValuesOf.{found_within}
use Rattle.og_types.proofs.values.joint_at_rank.Goals as goal

pub returns-clause-there : goal.returns-clause-there
returns-clause-there c = found_within (joint_values_of c.args.types.now) c.args.r c.joint_item.result c.joint_item.ensures
