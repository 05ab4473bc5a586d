use Rattle.std.proofs.Common.{◌≡◌, drop}
use Rattle.og_typing.specs.Variables.{around_of, params_walk}
use Rattle.og_typing.proofs.declarations.walk_params.Given as goal

abbrev pub invariant-params : goal.invariant-params
invariant-params l =
    params_walk (around_of l.around) l.origin (record { variables = l.variables; types = l.types }) (drop l.param-index l.params)
    ≡ params_walk (around_of l.around) l.origin l.fn.found l.params
