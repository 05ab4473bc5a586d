-- Games as contracts see them.
use Rattle.og_game.specs.declared.node.GameNodeOf.{GameNodeOf}
use Rattle.og_game.specs.declared.node.Plan.{Plan}
use Rattle.og_game.specs.declared.node.Plan.TheViews.{roll-Plan}

-- the game of a form over games
abbrev pub plan_of : GameNodeOf Plan → Plan
plan_of n = roll-Plan (record { node = n })
