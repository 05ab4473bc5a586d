-- What an expression of a type may have.
use Rattle.std.specs.Prelude.{Bool, true, Option, Some, None}
use Rattle.og_types.specs.declared.ty.Ty.{Ty}
use Rattle.og_types.specs.declared.value.Value.{Value}
use Rattle.og_types.specs.Ty.{holds}

-- nothing, or a value of the type
abbrev pub may_have : Ty → Option Value → Bool
may_have t None = true
may_have t (Some v) = holds t v
