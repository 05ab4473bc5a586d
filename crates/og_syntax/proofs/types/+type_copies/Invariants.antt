use Rattle.std.proofs.Common.{◌≡◌, take}
use Rattle.og_syntax.proofs.types.+type_copies.Given as goal

abbrev pub invariant-copy_types-types : goal.invariant-copy_types-types
invariant-copy_types-types l = l.all ≡ take l.ty-index l.types
