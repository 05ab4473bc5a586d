use Rattle.std.proofs.Common.{◌≡◌, drop}
use Rattle.og_typing.specs.Checked.{in_turn}
use Rattle.og_wires.specs.Rows.{entry_walk}
use Rattle.og_wires.proofs.rows.walk_entries.Given as goal

abbrev pub invariant-entries : goal.invariant-entries
invariant-entries l =
    in_turn (entry_walk l.declared l.ty) l.drawn (drop l.entry-index l.entries)
    ≡ in_turn (entry_walk l.declared l.ty) l.initial.drawn l.entries
