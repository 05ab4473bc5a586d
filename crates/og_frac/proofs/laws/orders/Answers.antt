use Rattle.og_frac.specs.laws.Orders.{order_reversed, order_equal, order_less, order_transitive}
use Rattle.og_frac.proofs.TotalOrder.{total_order_is}
use Rattle.og_frac.proofs.laws.orders.Goals as goal

pub returns-clause-reversed : goal.returns-clause-reversed
returns-clause-reversed c = order_reversed

pub returns-clause-equal : goal.returns-clause-equal
returns-clause-equal c = order_equal

pub returns-clause-less : goal.returns-clause-less
returns-clause-less c = order_less

pub returns-clause-transitive : goal.returns-clause-transitive
returns-clause-transitive c = order_transitive

pub returns-clause-total : goal.returns-clause-total
returns-clause-total c = total_order_is
