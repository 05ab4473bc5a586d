use Rattle.std.proofs.Common.{◌≡◌, ◌++◌, take, map}
use Rattle.og_canonical.specs.Tokens.{commas}
use Rattle.og_canonical.specs.Types.{ty_text}
use Rattle.og_canonical.proofs.types.+type_texts.Given as goal

abbrev pub invariant-write_list-types : goal.invariant-write_list-types
invariant-write_list-types l = l.out ≡ l.initial.out ++ commas (map ty_text (take l.at l.types))
