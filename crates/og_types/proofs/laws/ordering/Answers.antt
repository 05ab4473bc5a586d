use Rattle.std.proofs.Common.{◌∙◌}
use Rattle.og_types.specs.laws.ValueOrder.{order_reversed, order_decides, order_along}
use Rattle.og_types.proofs.ValueLevels.{order_numbers, order_cases, order_flags, order_tuples}
use Rattle.og_types.proofs.laws.ordering.Goals as goal

pub returns-clause-reversed : goal.returns-clause-reversed
returns-clause-reversed c = order_reversed

pub returns-clause-equal : goal.returns-clause-equal
returns-clause-equal c = order_decides

pub returns-clause-transitive : goal.returns-clause-transitive
returns-clause-transitive c = order_along

pub returns-clause-numbers : goal.returns-clause-numbers
returns-clause-numbers c = λ p q h k. order_numbers p q ∙ c.orders.ensures.total p q h k

pub returns-clause-cases : goal.returns-clause-cases
returns-clause-cases c = order_cases

pub returns-clause-flags : goal.returns-clause-flags
returns-clause-flags c = order_flags

pub returns-clause-tuples : goal.returns-clause-tuples
returns-clause-tuples c = order_tuples
