-- What a form is made into.
use Rattle.std.specs.Prelude.{◌≡◌, None, IsSome, Result, Ok, Err}
use Rattle.og_game.specs.declared.node.Plan.{Plan}
use Rattle.og_game.specs.declared.game.GameFault.{GameFault}
use Rattle.og_game.specs.declared.game.GameFault.TheVariants.{BadWiring, Memory}
use Rattle.og_game.specs.Wired.{ports_of}

-- the game itself where it has ports, and BadWiring exactly where it has none
abbrev pub Builds : Plan → Result Plan GameFault → Type 0
Builds g (Ok made) = (made ≡ g) × IsSome (ports_of g)
Builds g (Err BadWiring) = ports_of g ≡ None
Builds g (Err Memory) = Unit {0}
