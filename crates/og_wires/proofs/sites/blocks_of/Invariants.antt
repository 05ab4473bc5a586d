use Rattle.std.proofs.Common.{◌≡◌, drop}
use Rattle.og_wires.specs.Sites.{with_blocks, blocks_of}
use Rattle.og_wires.proofs.sites.blocks_of.Given as goal

abbrev pub invariant-numbers : goal.invariant-numbers
invariant-numbers g l = with_blocks l.blocks (drop l.number l.library.blocks.items) ≡ blocks_of l.library.blocks.items
