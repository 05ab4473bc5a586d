-- Readers of items that are handed in as function values.
use Rattle.std.specs.Prelude.{ℕ, List, Result}
use Rattle.std.specs.declared.alloc.Global.{Global}
use denote.Ref.{MutBor}
use Rattle.og_grammar.specs.Lexeme.{Lexeme}
use Rattle.og_grammar.specs.declared.fault.Fault.{Fault}
use Rattle.og_grammar.specs.Reading.{Outcome}
use Rattle.og_grammar.specs.Reads.{ReadsBy}

-- what a call of a reader may have given: the allocator, the cursor before, the room, the result, the cursor after
abbrev pub Calls : Type 0 → Type 1
Calls A = Global → MutBor (List Lexeme) → ℕ → Result A Fault → MutBor (List Lexeme) → Type 0

-- In this room it may be called.
abbrev pub IsCallable : ℕ → (Global → MutBor (List Lexeme) → ℕ → Type 0) → Type 0
IsCallable room callable = (alloc : Global) (old : MutBor (List Lexeme)) → callable alloc old room

-- In this room, each call reads so.
abbrev pub IsReader : {A : Type 0} → ℕ → Calls A → (List Lexeme → Outcome A) → Type 0
IsReader {A} room calls reading =
    (alloc : Global) (old new : MutBor (List Lexeme)) (r : Result A Fault) → calls alloc old room r new
    → ReadsBy reading old.now r new.now

-- Whatever the reader of items is known to read, the list is read by it.
abbrev pub ReadsEach :
    {A B : Type 0} → ℕ → Calls A → ((List Lexeme → Outcome A) → List Lexeme → Outcome B) → List Lexeme → Result B Fault → List Lexeme → Type 0
ReadsEach {A} room calls each old r new =
    (reading : List Lexeme → Outcome A) → IsReader room calls reading → ReadsBy (each reading) old r new
