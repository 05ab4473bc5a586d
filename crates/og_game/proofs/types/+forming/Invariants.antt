use Rattle.std.proofs.Common.{◌≡◌, drop}
use Rattle.std.specs.List.{list_all}
use Rattle.og_native.specs.Ports.{is_formed}
use Rattle.og_game.proofs.types.+forming.Given as goal

abbrev pub invariant-are_formed-types : goal.invariant-are_formed-types
invariant-are_formed-types l = list_all is_formed (drop l.ty-index l.types) ≡ list_all is_formed l.types
