use Rattle.std.proofs.Common.{◌∙◌, sym, rules}
use Rattle.og_types.specs.Values.{values_of}
use Rattle.og_types.proofs.ValuesOf.{take_goes}
use Rattle.og_types.proofs.ty.Ty.values.Goals as goal

pub ranks-preserved : goal.ranks-preserved
ranks-preserved c = take_goes (values_of c.args.self.now) c.ranks.all c.add.new.self c.ranks.rank c.in-Some.value c.ranks.invariant (search rules) (sym c.in-Some.is ∙ c.in_ok-value.ensures)
