-- What the steps between a reader of a front of the tokens and the reader of a whole text give.
use Rattle.std.specs.Prelude.{◌≡◌, ◌-◌, ◌<◌, ◌^◌, ℕ, nat_eq, if◌then◌else◌, List, [], ◌∷◌, length, Option, None, Some, Result, Ok, Err}
use Rattle.og_grammar.specs.Lexeme.{Lexeme}
use Rattle.og_grammar.specs.declared.fault.Fault.{Fault}
use Rattle.og_grammar.specs.declared.fault.Fault.TheVariants.{Memory, Syntax}
use Rattle.og_parse.specs.declared.faults.ParseFault.{ParseFault}
use Rattle.og_parse.specs.declared.faults.ParseFault.TheVariants as faults

-- what a reading of so many tokens, with that rest, comes to where all have to be read
abbrev pub whole_of : {A : Type 0} → Result A Fault → List Lexeme → ℕ → Result A Fault
whole_of (Ok a) [] count = Ok a
whole_of (Ok a) (t ∷ ts) count = Err (Syntax (count - length (t ∷ ts)))
whole_of (Err (Syntax left)) rest count = Err (Syntax (count - left))
whole_of (Err Memory) rest count = Err Memory

abbrev pub IsWhole : {A : Type 0} → Result A Fault → List Lexeme → ℕ → Result A Fault → Type 0
IsWhole read rest count result = result ≡ whole_of read rest count

-- the fault of all tokens by that of those through the first that is too deep
abbrev pub fault_of : Fault → ℕ → Option ℕ → ParseFault
fault_of Memory shown deep = faults.Memory
fault_of (Syntax k) shown None = faults.Syntax k
fault_of (Syntax k) shown (Some last) = if nat_eq k shown then faults.Deep last else faults.Syntax k

-- a fault's number is below 2^32
abbrev pub IsSmall : Fault → Type 0
IsSmall Memory = Unit {0}
IsSmall (Syntax k) = k < 2 ^ 32
