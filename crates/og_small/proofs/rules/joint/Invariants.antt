use Rattle.std.proofs.Common.{◌≡◌, ◌≤◌, drop, length}
use Rattle.og_small.specs.Rules.{joint}
use Rattle.og_small.proofs.rules.joint.Given as goal

abbrev pub invariant-columns : goal.invariant-columns
invariant-columns l = (l.all ≡ joint (drop l.left l.columns)) × (l.left ≤ length l.columns)

abbrev pub decreases-columns : goal.decreases-columns
decreases-columns l = l.left
