use Rattle.std.proofs.Common.{◌≡◌, [], drop}
use Rattle.og_typing.specs.Values.{values_from}
use Rattle.og_typing.proofs.values.walk_values.Given as goal

abbrev pub invariant-values : goal.invariant-values
invariant-values l =
    values_from l.declared l.types l.at l.all (drop l.at l.key) ≡ values_from l.declared l.types 0 [] l.key
