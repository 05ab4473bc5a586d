use Rattle.std.proofs.Common.{◌≡◌, drop}
use Rattle.og_game.specs.Rows.{are_weights}
use Rattle.og_game.proofs.rows.are_weights.Given as goal

abbrev pub invariant-entries : goal.invariant-entries
invariant-entries l = are_weights l.left (drop l.weight-index l.row) ≡ are_weights l.scale l.row
