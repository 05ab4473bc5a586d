use Rattle.std.proofs.Common.{◌≡◌, [], drop}
use Rattle.og_inlining.specs.Steps.{each_of}
use Rattle.og_rows.specs.Rows.{drawn_item}
use Rattle.og_rows.proofs.rows.drawn_items.Given as goal

abbrev pub invariant-entries : goal.invariant-entries
invariant-entries l = each_of (drawn_item l.declared l.ty l.scale) l.all (drop l.entry-index l.entries) ≡ each_of (drawn_item l.declared l.ty l.scale) [] l.entries
