use Rattle.og_types.specs.Values.{values_of, joint_values_of}
use Rattle.og_types.proofs.TyLevels.{values_tuple}
use Rattle.og_types.proofs.Tuples.{length_product}
use Rattle.og_types.proofs.RankLaws.{each_joint, joint_once}
use Rattle.og_types.proofs.laws.joint_listing.Goals as goal

pub returns-clause-each : goal.returns-clause-each
returns-clause-each c = each_joint

pub returns-clause-once : goal.returns-clause-once
returns-clause-once c = joint_once

pub returns-clause-many : goal.returns-clause-many
returns-clause-many c = λ t ts. length_product (values_of t) (joint_values_of ts)

pub returns-clause-tuples : goal.returns-clause-tuples
returns-clause-tuples c = values_tuple
