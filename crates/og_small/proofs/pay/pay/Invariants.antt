use Rattle.std.proofs.Common.{◌≡◌, drop}
use Rattle.std.specs.Prelude.{find}
use Rattle.og_small.specs.Meaning.{is_played}
use Rattle.og_small.proofs.pay.pay.Given as goal

abbrev pub invariant-rows : goal.invariant-rows
invariant-rows l = find (is_played l.lines l.choices l.keys) (drop l.row-index l.rows) ≡ find (is_played l.lines l.choices l.keys) l.rows
