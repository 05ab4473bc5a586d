use Rattle.std.proofs.Common.{◌≡◌, drop}
use Rattle.og_wires.specs.Programs.{decls_walk}
use Rattle.og_places.proofs.ports.walk_decls.Given as goal

abbrev pub invariant-decls : goal.invariant-decls
invariant-decls l =
    decls_walk l.blocks l.number l.known (drop l.decl-index l.decls)
    ≡ decls_walk l.blocks 0 l.initial.known l.decls
