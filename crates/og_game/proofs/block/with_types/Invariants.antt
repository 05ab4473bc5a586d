use Rattle.std.proofs.Common.{◌≡◌, ◌++◌, map, take}
use Rattle.og_game.specs.Scopes.{from}
use Rattle.og_game.proofs.block.with_types.Given as goal

abbrev pub invariant-types : goal.invariant-types
invariant-types l = l.all ≡ l.fn.variables ++ map (from l.origin) (take l.ty-index l.types)
