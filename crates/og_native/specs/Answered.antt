-- What a block's call answers.
use Rattle.std.specs.Prelude.{◌≡◌, Option, Some, None, Result, Ok, Err}
use Rattle.og_native.specs.declared.fault.NativeFault.{NativeFault}
use Rattle.og_native.specs.declared.fault.NativeFault.TheVariants.{Passes, Memory}

-- what the law has there, and Passes exactly where it has nothing
abbrev pub Answers : {A : Type 0} → Option A → Result A NativeFault → Type 0
Answers o (Ok a) = o ≡ Some a
Answers o (Err Passes) = o ≡ None
Answers o (Err Memory) = Unit {0}
