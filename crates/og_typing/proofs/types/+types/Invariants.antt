use Rattle.std.proofs.Common.{◌≡◌, [], drop}
use Rattle.og_typing.specs.Types.{types_walk}
use Rattle.og_typing.proofs.types.+types.Given as goal

abbrev pub invariant-walk_types-types : goal.invariant-walk_types-types
invariant-walk_types-types l = types_walk l.declared l.all (drop l.ty-index l.types) ≡ types_walk l.declared [] l.types
