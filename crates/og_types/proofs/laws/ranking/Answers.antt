use Rattle.og_types.proofs.RankLaws.{at_rank, rank_at_place, rank_there, equal_ranks, places_ordered}
use Rattle.og_types.proofs.laws.ranking.Goals as goal

pub returns-clause-places : goal.returns-clause-places
returns-clause-places c = λ t v k. (at_rank t v k, rank_at_place t k v)

pub returns-clause-there : goal.returns-clause-there
returns-clause-there c = rank_there

pub returns-clause-equal : goal.returns-clause-equal
returns-clause-equal c = equal_ranks

pub returns-clause-ordered : goal.returns-clause-ordered
returns-clause-ordered c = λ t v w i j p q. places_ordered t v w i j (at_rank t v i p) (at_rank t w j q)
