use Rattle.std.proofs.Common.{◌≡◌, ◌++◌, take, map}
use Rattle.og_canonical.specs.Tokens.{commas}
use Rattle.og_canonical.specs.Programs.{game_param_text}
use Rattle.og_canonical.proofs.programs.write_game_params.Given as goal

abbrev pub invariant-params : goal.invariant-params
invariant-params l = l.out ≡ l.initial.out ++ commas (map game_param_text (take l.at l.params))
