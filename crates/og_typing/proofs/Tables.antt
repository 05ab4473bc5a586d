-- Tables whose keys' joint values are counted.
use Rattle.std.proofs.Common.{◌≡◌, ℕ, true, List, length}
use Rattle.og_types.specs.Values.{joint_values_of}
use Rattle.og_syntax.specs.declared.expressions.TableRow.{TableRow}
use Rattle.og_typing.specs.declared.fault.WireFault.TheVariants.{TooManyValues}
use Rattle.og_typing.specs.declared.kind.Kinds.{Kinds}
use Rattle.og_typing.specs.Checked.{◌>>◌, rule}
use Rattle.og_typing.specs.Scopes.{Names}
use Rattle.og_typing.specs.Expressions.{Part, are_keys, all_rows, rows_walk}

pub rows_counted : (at : ℕ) (names : Names) (depth : ℕ) (keys : Kinds) (rows : List (TableRow Part)) (count : ℕ)
    → are_keys keys.types ≡ true → length (joint_values_of keys.types) ≡ count
    → rows_walk at names depth keys rows ≡ all_rows at names depth keys.types count keys.deep rows
rows_counted at names depth keys rows count holds is =
    λ i. rule (holds i) (TooManyValues at) >> all_rows at names depth keys.types (is i) keys.deep rows
