use Rattle.og_parse.proofs.games.+game.Given as goal

abbrev pub decreases-game : goal.decreases-game
decreases-game l = l.room
