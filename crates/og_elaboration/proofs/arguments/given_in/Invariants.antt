use Rattle.std.proofs.Common.{◌≡◌, drop}
use Rattle.og_elaboration.specs.Arguments.{given_from, given_in}
use Rattle.og_elaboration.proofs.arguments.given_in.Given as goal

abbrev pub invariant-params : goal.invariant-params
invariant-params l =
    given_from l.declared l.round l.args l.at l.found (drop l.at l.params) ≡ given_in l.declared l.round l.params l.args
