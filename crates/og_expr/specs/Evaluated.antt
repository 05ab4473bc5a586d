-- What an evaluation answers.
use Rattle.std.specs.Prelude.{◌≡◌, Option, Some, None, Result, Ok, Err}
use Rattle.og_expr.specs.declared.evaluation.EvalFault.{EvalFault}
use Rattle.og_expr.specs.declared.evaluation.EvalFault.TheVariants.{Passes, Memory}

-- what is there, and Passes exactly where nothing is
abbrev pub Evaluates : {A : Type 0} → Option A → Result A EvalFault → Type 0
Evaluates o (Ok a) = o ≡ Some a
Evaluates o (Err Passes) = o ≡ None
Evaluates o (Err Memory) = Unit {0}
