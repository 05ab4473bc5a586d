use Rattle.std.proofs.Common.{length}
use denote.Shadow.{shadow}
use denote.Text.{Utf8}
use Rattle.og_lex.specs.Characters.{has}
use Rattle.og_lex.proofs.TextCuts.{IsPassed}
use Rattle.og_lex.proofs.front.after.Given as goal

abbrev pub invariant-run : goal.invariant-run
invariant-run l = shadow (Utf8 l.rest) × IsPassed (has l.class) l.text l.rest

abbrev pub decreases-run : goal.decreases-run
decreases-run l = length l.rest
