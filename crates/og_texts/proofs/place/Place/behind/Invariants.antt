use Rattle.std.proofs.Common.{◌≡◌, ◌+◌, ◌≤◌, take}
use Rattle.og_texts.specs.Places.{line_at_end, column_at_end}
use Rattle.og_texts.proofs.place.Place.behind.Given as goal

abbrev pub invariant-bytes : goal.invariant-bytes
invariant-bytes l =
    (l.place.line ≡ line_at_end (take l.byte-index l.front))
    × (l.place.column ≡ column_at_end (take l.byte-index l.front))
    × (l.place.column ≤ l.byte-index + 1)
