use Rattle.std.proofs.Common.{◌≡◌, drop}
use Rattle.og_atoms.specs.Atoms.{params_in}
use Rattle.og_atoms.proofs.functions.params_in.Given as goal

abbrev pub invariant-params : goal.invariant-params
invariant-params l =
    params_in l.declared l.origin (record { variables = l.variables; types = l.types }) (drop l.param-index l.params)
    ≡ params_in l.declared l.origin l.fn.found l.params
