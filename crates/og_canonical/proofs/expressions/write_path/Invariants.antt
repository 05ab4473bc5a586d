use Rattle.std.proofs.Common.{◌≡◌, ◌++◌, take}
use Rattle.og_canonical.specs.Expressions.{path_text}
use Rattle.og_canonical.proofs.expressions.write_path.Given as goal

abbrev pub invariant-path : goal.invariant-path
invariant-path l = l.out ≡ l.initial.out ++ path_text (take l.component-index l.path)
