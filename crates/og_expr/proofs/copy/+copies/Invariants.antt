use Rattle.std.proofs.Common.{◌≡◌, take}
use Rattle.og_expr.proofs.copy.+copies.Given as goal

abbrev pub invariant-parts-those : goal.invariant-parts-those
invariant-parts-those l = l.all ≡ take l.e-index l.those

abbrev pub invariant-addends-those : goal.invariant-addends-those
invariant-addends-those l = l.all ≡ take l.one-index l.those

abbrev pub invariant-factors-those : goal.invariant-factors-those
invariant-factors-those l = l.all ≡ take l.one-index l.those

abbrev pub invariant-choices-those : goal.invariant-choices-those
invariant-choices-those l = l.all ≡ take l.one-index l.those

abbrev pub invariant-keys-those : goal.invariant-keys-those
invariant-keys-those l = l.all ≡ take l.one-index l.those
