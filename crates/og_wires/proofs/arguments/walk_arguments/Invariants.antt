use Rattle.std.proofs.Common.{◌≡◌, drop}
use Rattle.og_wires.specs.Arguments.{arguments_walk}
use Rattle.og_wires.proofs.arguments.walk_arguments.Given as goal

abbrev pub invariant-arguments : goal.invariant-arguments
invariant-arguments l =
    arguments_walk l.declared l.params l.wanted l.at (drop l.at l.args)
    ≡ arguments_walk l.declared l.params l.wanted 0 l.args
