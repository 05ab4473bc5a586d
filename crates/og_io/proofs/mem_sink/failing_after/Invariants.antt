use Rattle.std.proofs.Common.{◌≡◌, take}
use Rattle.og_io.specs.Fakes.{fails_after}
use Rattle.og_io.proofs.mem_sink.failing_after.Given as goal

abbrev pub invariant-told : goal.invariant-told
invariant-told l = l.found ≡ fails_after (take l.told-index l.failing) l.call
