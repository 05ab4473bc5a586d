use Rattle.og_native.proofs.Winners.{first_wins, second_wins}
use Rattle.og_native.proofs.laws.winning.Goals as goal

pub returns-clause-first : goal.returns-clause-first
returns-clause-first c = first_wins

pub returns-clause-second : goal.returns-clause-second
returns-clause-second c = second_wins
