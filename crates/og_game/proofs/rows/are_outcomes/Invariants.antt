use Rattle.std.proofs.Common.{◌≡◌, ◌≤◌, ◌^◌, map, drop}
use Rattle.og_game.specs.Rows.{are_rising}
use Rattle.og_game.proofs.rows.are_outcomes.Given as goal

abbrev pub invariant-entries : goal.invariant-entries
invariant-entries l =
    (are_rising l.from l.outcomes (map (λ entry. entry.0) (drop l.rank-index l.row))
    ≡ are_rising 0 l.outcomes (map (λ entry. entry.0) l.row)) × (l.from ≤ 2 ^ 32)
