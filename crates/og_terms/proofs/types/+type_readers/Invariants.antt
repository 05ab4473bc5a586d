use Rattle.std.proofs.Common.{◌+◌, ◌*◌}
use Rattle.og_terms.proofs.types.+type_readers.Given as goal

-- Each reader calls one that comes later in this order, or reads in less room.
abbrev pub decreases-type_rule : goal.decreases-type_rule
decreases-type_rule l = 5 * l.room + 3

abbrev pub decreases-tuple_type : goal.decreases-tuple_type
decreases-tuple_type l = 5 * l.room + 2

abbrev pub decreases-type_parts : goal.decreases-type_parts
decreases-type_parts l = 5 * l.room + 1

abbrev pub decreases-ty : goal.decreases-ty
decreases-ty l = 5 * l.room
