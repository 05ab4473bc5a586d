use Rattle.std.proofs.Common.{◌≡◌, length}
use Rattle.og_blocks_tests.proofs.boxed.asked.Given as goal

abbrev pub invariant-mechanisms : goal.invariant-mechanisms
invariant-mechanisms l = length l.blocks.items ≡ l.m-index
