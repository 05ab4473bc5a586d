-- What a form is made into.
use Rattle.std.specs.Prelude.{◌≡◌, None, IsSome, Result, Ok, Err}
use Rattle.og_expr.specs.declared.node.Term.{Term}
use Rattle.og_expr.specs.declared.expr.BuildFault.{BuildFault}
use Rattle.og_expr.specs.declared.expr.BuildFault.TheVariants.{BadType, Memory}
use Rattle.og_expr.specs.Types.{type_of}

-- the expression itself where it has a type, and BadType exactly where it has none
abbrev pub Builds : Term → Result Term BuildFault → Type 0
Builds t (Ok e) = (e ≡ t) × IsSome (type_of t)
Builds t (Err BadType) = type_of t ≡ None
Builds t (Err Memory) = Unit {0}
