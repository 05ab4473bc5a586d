use Rattle.std.proofs.Common.{◌≡◌, [], drop}
use Rattle.og_typing.specs.Checked.{in_turn}
use Rattle.og_wires.specs.Rows.{with_finite}
use Rattle.og_wires.proofs.rows.walk_observed.Given as goal

abbrev pub invariant-types : goal.invariant-types
invariant-types l =
    in_turn (with_finite l.declared) l.all (drop l.written-index l.observes) ≡ in_turn (with_finite l.declared) [] l.observes
