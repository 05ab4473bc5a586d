use Rattle.og_native.proofs.Inside.{plays_inside, pays_inside}
use Rattle.og_native.proofs.laws.at_ports.Goals as goal

pub returns-clause-plays : goal.returns-clause-plays
returns-clause-plays c = plays_inside

pub returns-clause-pays : goal.returns-clause-pays
returns-clause-pays c = pays_inside
