use Rattle.og_types.proofs.RankLaws.{each_listed, listed_once}
use Rattle.og_types.proofs.laws.listing.Goals as goal

pub returns-clause-each : goal.returns-clause-each
returns-clause-each c = each_listed

pub returns-clause-once : goal.returns-clause-once
returns-clause-once c = listed_once
