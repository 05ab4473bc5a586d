use Rattle.std.proofs.Common.{sym, refl}
use Rattle.og_types.specs.declared.value.Value.TheVariants as value
use Rattle.og_types.specs.declared.ty.Ty.TheVariants as ty
use Rattle.og_types.proofs.RankOf.{rank_tuple}
use Rattle.og_types.proofs.RankLaws.{at_joint_rank, joint_rank_at_place, joint_rank_there, equal_joint_ranks, joint_ranks_ordered, rank_by_parts, first_slowest}
use Rattle.og_types.proofs.laws.joint_ranking.Goals as goal

pub returns-clause-places : goal.returns-clause-places
returns-clause-places c = λ ts vs k. (at_joint_rank ts vs k, joint_rank_at_place ts k vs)

pub returns-clause-there : goal.returns-clause-there
returns-clause-there c = joint_rank_there

pub returns-clause-equal : goal.returns-clause-equal
returns-clause-equal c = equal_joint_ranks

pub returns-clause-ordered : goal.returns-clause-ordered
returns-clause-ordered c = joint_ranks_ordered

pub returns-clause-parts : goal.returns-clause-parts
returns-clause-parts c = rank_by_parts

pub returns-clause-first_slowest : goal.returns-clause-first_slowest
returns-clause-first_slowest c = first_slowest

pub returns-clause-tuples : goal.returns-clause-tuples
returns-clause-tuples c = λ ts vs. sym (rank_tuple (ty.Tuple ts) (value.Tuple vs) ts vs refl refl)
