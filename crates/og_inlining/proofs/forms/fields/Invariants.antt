use Rattle.std.proofs.Common.{◌≡◌, drop}
use Rattle.og_inlining.specs.Trees.{fields}
use Rattle.og_inlining.proofs.forms.fields.Given as goal

abbrev pub invariant-path : goal.invariant-path
invariant-path l = fields l.found (drop l.place-index l.path) ≡ fields l.fn.part l.path
