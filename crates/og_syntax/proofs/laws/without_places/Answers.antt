use Rattle.og_syntax.proofs.WithoutPlaces.{ty_tuple, ty_twice, value_tuple, value_twice}
use Rattle.og_syntax.proofs.laws.without_places.Goals as goal

pub returns-clause-types : goal.returns-clause-types
returns-clause-types c = ty_tuple

pub returns-clause-types_twice : goal.returns-clause-types_twice
returns-clause-types_twice c = ty_twice

pub returns-clause-values : goal.returns-clause-values
returns-clause-values c = value_tuple

pub returns-clause-values_twice : goal.returns-clause-values_twice
returns-clause-values_twice c = value_twice
