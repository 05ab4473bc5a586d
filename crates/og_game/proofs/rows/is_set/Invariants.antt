use Rattle.std.proofs.Common.{◌≡◌, ◌≤◌, ◌^◌, drop}
use Rattle.og_game.specs.Rows.{are_rising}
use Rattle.og_game.proofs.rows.is_set.Given as goal

abbrev pub invariant-ranks : goal.invariant-ranks
invariant-ranks l =
    (are_rising l.from l.count (drop l.rank-index l.ranks) ≡ are_rising 0 l.count l.ranks) × (l.from ≤ 2 ^ 32)
