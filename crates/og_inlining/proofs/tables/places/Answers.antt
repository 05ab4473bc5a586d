use Rattle.std.proofs.Common.{arith}
use Rattle.std.proofs.lemmas.Grind.{common_steps}
use Rattle.og_inlining.proofs.Placing.{place_next, place_none}
use Rattle.og_inlining.proofs.tables.places.Goals as goal

pub returns-in-None : goal.returns-in-None
returns-in-None c = grind (arith, common_steps, place_none c.args.ranks.now c.ranks.rank c.ranks.all)

pub ranks-preserved : goal.ranks-preserved
ranks-preserved c = grind (arith, common_steps, place_next c.args.ranks.now c.ranks.rank c.ranks.all c.in-Some.at)
