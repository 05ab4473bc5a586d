use Rattle.std.specs.Cmp.Lexicographic.{pointwise_decides}
use Rattle.og_types.specs.Value as value
use Rattle.og_types.specs.Ty as ty
use Rattle.og_types.specs.laws.ValueEquality as values
use Rattle.og_types.specs.laws.TyEquality as types
use Rattle.og_types.proofs.laws.equality.Goals as goal

pub returns-clause-values : goal.returns-clause-values
returns-clause-values c = values.same_decides

pub returns-clause-types : goal.returns-clause-types
returns-clause-types c = types.same_decides

pub returns-clause-lists : goal.returns-clause-lists
returns-clause-lists c = pointwise_decides {E = value.same} values.same_decides

pub returns-clause-lists_of_types : goal.returns-clause-lists_of_types
returns-clause-lists_of_types c = pointwise_decides {E = ty.same} types.same_decides
