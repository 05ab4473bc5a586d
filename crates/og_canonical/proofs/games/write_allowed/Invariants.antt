use Rattle.std.proofs.Common.{◌≡◌, ◌++◌, take}
use Rattle.std.specs.Prelude.{flat_map}
use Rattle.og_canonical.specs.Games.{allowed_text}
use Rattle.og_canonical.proofs.games.write_allowed.Given as goal

abbrev pub invariant-rows : goal.invariant-rows
invariant-rows l = l.out ≡ l.initial.out ++ flat_map allowed_text (take l.row-index l.rows)
