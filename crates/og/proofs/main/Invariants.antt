use Rattle.std.proofs.Common.{◌≡◌, length}
use Rattle.og.proofs.main.Given as goal

abbrev pub invariant-mechanisms : goal.invariant-mechanisms
invariant-mechanisms l = length l.blocks.items ≡ l.m-index

abbrev pub ghosts-run_told : goal.ghosts-run_told
ghosts-run_told a = record { name = a.blank.name; parts = a.blank.parts }
