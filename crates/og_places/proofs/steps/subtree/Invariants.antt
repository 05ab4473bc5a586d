use Rattle.std.proofs.Common.{◌≡◌, drop}
use Rattle.og_places.specs.Places.{subtree}
use Rattle.og_places.proofs.steps.subtree.Given as goal

abbrev pub invariant-steps : goal.invariant-steps
invariant-steps l = subtree (drop l.step-index l.steps) l.found ≡ subtree l.steps l.game
