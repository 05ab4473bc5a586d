use Rattle.std.proofs.Common.{◌≡◌, [], drop}
use Rattle.og_inlining.specs.Steps.{each_of}
use Rattle.og_rows.specs.Rows.{drawn_row}
use Rattle.og_rows.proofs.rows.drawn_rows.Given as goal

abbrev pub invariant-rows : goal.invariant-rows
invariant-rows l = each_of (drawn_row l.declared l.observes l.ty l.scale) l.all (drop l.row-index l.rows) ≡ each_of (drawn_row l.declared l.observes l.ty l.scale) [] l.rows
