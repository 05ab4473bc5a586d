use Rattle.std.proofs.Common.{◌≡◌, take}
use Rattle.og_syntax.proofs.games.copy_args.Given as goal

abbrev pub invariant-list : goal.invariant-list
invariant-list l = l.all ≡ take l.arg-index l.list
