use Rattle.std.proofs.Common.{◌≡◌, ◌++◌, take, map}
use Rattle.og_canonical.specs.Tokens.{commas}
use Rattle.og_canonical.specs.Games.{arg_text}
use Rattle.og_canonical.proofs.games.write_args.Given as goal

abbrev pub invariant-list : goal.invariant-list
invariant-list l = l.out ≡ l.initial.out ++ commas (map arg_text (take l.at l.args))
