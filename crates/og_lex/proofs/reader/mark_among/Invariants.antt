use Rattle.std.proofs.Common.{◌≡◌, drop}
use Rattle.std.specs.Str.{chars}
use Rattle.og_lex.specs.LeftToRight.{mark_among}
use Rattle.og_lex.proofs.reader.mark_among.Given as goal

abbrev pub invariant-marks : goal.invariant-marks
invariant-marks l = mark_among l.marks (chars l.text) ≡ mark_among (drop l.mark-index l.marks) (chars l.text)
