use Rattle.std.proofs.Common.{◌≡◌, ◌++◌, take}
use Rattle.og_canonical.specs.Types.{params_text}
use Rattle.og_canonical.proofs.types.write_params.Given as goal

abbrev pub invariant-params : goal.invariant-params
invariant-params l = l.out ≡ l.initial.out ++ params_text (take l.at l.params)
