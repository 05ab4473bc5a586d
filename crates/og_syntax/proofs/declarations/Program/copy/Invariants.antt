use Rattle.std.proofs.Common.{◌≡◌, take}
use Rattle.og_syntax.proofs.declarations.Program.copy.Given as goal

abbrev pub invariant-decls : goal.invariant-decls
invariant-decls l = l.decls ≡ take l.decl-index l.self.decls
