use Rattle.std.proofs.Common.{◌≡◌, ◌+◌, drop}
use Rattle.og_game.specs.Wired.{are_next}
use Rattle.og_game.proofs.block.next_variable.Given as goal

abbrev pub invariant-numbers : goal.invariant-numbers
invariant-numbers l =
    (are_next l.next (drop l.number-index l.numbers) ≡ are_next l.n l.numbers) × (l.next ≡ l.n + l.number-index)
