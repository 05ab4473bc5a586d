use Rattle.std.proofs.Common.{◌≡◌, drop}
use Rattle.og_typing.specs.Checked.{in_turn}
use Rattle.og_wires.specs.Programs.{game_param_walk, game_params_walk}
use Rattle.og_wires.proofs.programs.walk_game_params.Given as goal

abbrev pub invariant-params : goal.invariant-params
invariant-params l =
    in_turn (game_param_walk l.declared l.own) l.found (drop l.param-index l.params) ≡ game_params_walk l.declared l.own l.params
