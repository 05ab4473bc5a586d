use Rattle.og_frac.proofs.Floors.{floor_at_most, floor_greatest}
use Rattle.og_frac.proofs.laws.floors.Goals as goal

pub returns-clause-at_most : goal.returns-clause-at_most
returns-clause-at_most c = floor_at_most

pub returns-clause-greatest : goal.returns-clause-greatest
returns-clause-greatest c = floor_greatest
