use Rattle.std.proofs.Common.{◌≤◌, length, take}
use Rattle.std.specs.Io.KnownBytes.{Appends}
use Rattle.og_io.proofs.streams.write_whole.Given as goal

abbrev pub invariant-pieces : goal.invariant-pieces
invariant-pieces g l =
    (l.taken ≤ length l.bytes) × Appends (g.W.Write.contents l.fn.writer) (g.W.Write.contents l.writer) (take l.taken l.bytes)
