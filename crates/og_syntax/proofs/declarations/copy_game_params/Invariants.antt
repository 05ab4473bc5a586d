use Rattle.std.proofs.Common.{◌≡◌, take}
use Rattle.og_syntax.proofs.declarations.copy_game_params.Given as goal

abbrev pub invariant-params : goal.invariant-params
invariant-params l = l.all ≡ take l.param-index l.params
