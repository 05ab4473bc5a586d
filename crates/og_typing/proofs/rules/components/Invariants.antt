use Rattle.std.proofs.Common.{◌≡◌, drop}
use Rattle.og_typing.specs.Expressions.{components}
use Rattle.og_typing.proofs.rules.components.Given as goal

abbrev pub invariant-path : goal.invariant-path
invariant-path l = components l.at l.all (drop l.index-index l.path) ≡ components l.at l.ty l.path
