use Rattle.std.proofs.Common.{◌≡◌, drop}
use Rattle.og_places.specs.Places.{game_from}
use Rattle.og_places.proofs.ports.ports_named.Given as goal

abbrev pub invariant-decls : goal.invariant-decls
invariant-decls l =
    game_from l.number l.place.game (drop l.number l.decls) ≡ game_from 0 l.place.game l.decls
