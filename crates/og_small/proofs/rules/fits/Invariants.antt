use Rattle.std.proofs.Common.{◌≡◌, drop}
use Rattle.std.specs.Cmp.Lexicographic.{pointwise}
use Rattle.og_small.specs.Rules.{suits}
use Rattle.og_small.proofs.rules.fits.Given as goal

abbrev pub invariant-lines : goal.invariant-lines
invariant-lines l = pointwise (suits l.types) (drop l.i l.lines) (drop l.i l.sections) ≡ pointwise (suits l.types) l.lines l.sections
