use Rattle.og_types.proofs.JoinLaws.{join_fits, join_least, join_none, join_itself, join_swapped, join_exactly, join_bounds}
use Rattle.og_types.proofs.laws.joining.Goals as goal

pub returns-clause-fits_both : goal.returns-clause-fits_both
returns-clause-fits_both c = join_fits

pub returns-clause-least : goal.returns-clause-least
returns-clause-least c = join_least

pub returns-clause-none : goal.returns-clause-none
returns-clause-none c = join_none

pub returns-clause-idempotent : goal.returns-clause-idempotent
returns-clause-idempotent c = join_itself

pub returns-clause-commute : goal.returns-clause-commute
returns-clause-commute c = join_swapped

pub returns-clause-fits_exactly : goal.returns-clause-fits_exactly
returns-clause-fits_exactly c = join_exactly

pub returns-clause-bounds : goal.returns-clause-bounds
returns-clause-bounds c = join_bounds
