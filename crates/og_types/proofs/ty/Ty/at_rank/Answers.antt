use Rattle.og_types.specs.Values.{values_of}
use Rattle.og_types.proofs.ValuesOf.{found_within}
use Rattle.og_types.proofs.ty.Ty.at_rank.Goals as goal

pub returns-clause-there : goal.returns-clause-there
returns-clause-there c = found_within (values_of c.args.self.now) c.args.r c.item.result c.item.ensures
