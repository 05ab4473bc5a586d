use Rattle.std.proofs.Common.{◌≡◌, drop}
use Rattle.og_typing.specs.Variables.{around_of}
use Rattle.og_wires.specs.Wires.{each_named}
use Rattle.og_wires.proofs.wires.walk_each_name.Given as goal

abbrev pub invariant-names : goal.invariant-names
invariant-names l =
    each_named (around_of l.around) l.origin l.types l.at l.variables (drop l.at l.names)
    ≡ each_named (around_of l.around) l.origin l.types 0 l.initial.variables l.names
