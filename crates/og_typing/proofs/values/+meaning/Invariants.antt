use Rattle.std.proofs.Common.{◌≡◌, [], drop}
use Rattle.og_typing.specs.Values.{meant_all}
use Rattle.og_typing.proofs.values.+meaning.Given as goal

abbrev pub invariant-all_meant-values : goal.invariant-all_meant-values
invariant-all_meant-values l = meant_all l.declared l.all (drop l.value-index l.values) ≡ meant_all l.declared [] l.values
