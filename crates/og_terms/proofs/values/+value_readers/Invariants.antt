use Rattle.std.proofs.Common.{◌+◌, ◌*◌}
use Rattle.og_terms.proofs.values.+value_readers.Given as goal

-- Each reader calls one that comes later in this order, or reads in less room.
abbrev pub decreases-value_rule : goal.decreases-value_rule
decreases-value_rule l = 5 * l.room + 3

abbrev pub decreases-tuple_value : goal.decreases-tuple_value
decreases-tuple_value l = 5 * l.room + 2

abbrev pub decreases-value_parts : goal.decreases-value_parts
decreases-value_parts l = 5 * l.room + 1

abbrev pub decreases-value : goal.decreases-value
decreases-value l = 5 * l.room
