use Rattle.std.proofs.Common.{◌∙◌, sym}
use Rattle.og_io.proofs.Latest.{fails_after_more, fails_after_same}
use Rattle.og_io.proofs.mem_sink.failing_after.Goals as goal
use Rattle.og_io.proofs.mem_sink.failing_after.Goals.{then-from-call, else-from-call}

pub told-preserved : goal.told-preserved
told-preserved c = elim c.if-from-call.branch [
  | then-from-call w ↦ w.found-is
      ∙ sym (fails_after_more c.args.failing.now c.told.told-index (0, 0) c.args.call c.told-test.true (sym c.from.ensures ∙ w.if-from-call.true))
  | else-from-call w ↦ w.found-is ∙ c.told.invariant
      ∙ sym (fails_after_same c.args.failing.now c.told.told-index (0, 0) c.args.call c.told-test.true (λ same. w.if-from-call.false (c.from.ensures ∙ same)))
]
