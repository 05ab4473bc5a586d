use Rattle.std.proofs.Common.{◌≡◌, ◌++◌, take}
use Rattle.std.specs.Prelude.{flat_map}
use Rattle.og_canonical.specs.Programs.{version_text, decl_text}
use Rattle.og_canonical.proofs.programs.print_program.Given as goal

abbrev pub invariant-decls : goal.invariant-decls
invariant-decls l = l.out ≡ version_text l.program.version ++ flat_map decl_text (take l.decl-index l.program.decls)
