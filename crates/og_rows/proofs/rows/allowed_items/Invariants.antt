use Rattle.std.proofs.Common.{◌≡◌, [], drop}
use Rattle.og_inlining.specs.Steps.{each_of}
use Rattle.og_rows.specs.Rows.{allowed_item}
use Rattle.og_rows.proofs.rows.allowed_items.Given as goal

abbrev pub invariant-actions : goal.invariant-actions
invariant-actions l = each_of (allowed_item l.declared l.ty) l.all (drop l.action-index l.actions) ≡ each_of (allowed_item l.declared l.ty) [] l.actions
