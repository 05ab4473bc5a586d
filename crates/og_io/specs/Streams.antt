-- Reading a reader to its end and writing a writer whole, and which error of the host is which fault.
use Rattle.std.specs.Prelude.{◌≡◌, ◌≢◌, ℕ, ◌<◌, ◌≤◌, ◌⊎◌, List, length, take, Option, Result, Ok, Err, MatchOption}
use Rattle.std.specs.IoError.{error_kind}
use Rattle.std.specs.Io.KnownBytes as known
use Rattle.std.specs.declared.alloc.Global.{Global}
use Rattle.std.specs.declared.vec.Vec.{Vec}
use Rattle.std.specs.declared.io.Error.{Error}
use Rattle.std.specs.declared.io.ErrorKind.TheVariants.{OutOfMemory}
use Rattle.og_io.specs.declared.faults.LoadFault.{LoadFault}
use Rattle.og_io.specs.declared.faults.LoadFault.TheVariants as load
use Rattle.og_io.specs.Outside.{LoadsHeld}

-- The fault is want of memory where the host says so, and else a failure.
abbrev pub IsFaultOf : Error → LoadFault → Type 0
IsFaultOf error fault =
    ((error_kind error ≡ OutOfMemory) × (fault ≡ load.Memory))
    ⊎ ((error_kind error ≢ OutOfMemory) × (fault ≡ load.Failed))

-- The refusal that an error gives.
abbrev pub Refuses : Error → Result (Vec ℕ Global) LoadFault → Type 0
Refuses error result = (fault : LoadFault) × (result ≡ Err fault) × IsFaultOf error fault

-- A reader that was opened is read to its end, and one that wasn't is refused by its error.
abbrev pub ReadsOpened : {R : Type 0} → (R → Option (List ℕ)) → Result R Error → ℕ
    → Result (Vec ℕ Global) LoadFault → Type 0
ReadsOpened remaining (Ok reader) cap result = LoadsHeld (remaining reader) cap result
ReadsOpened remaining (Err error) cap result = Refuses error result

-- What was read is answered where it isn't longer than the cap, and a read's error is its refusal.
abbrev pub Ends : Result ℕ Error → Vec ℕ Global → ℕ → Result (Vec ℕ Global) LoadFault → Type 0
Ends (Ok _) bytes cap result =
    (length bytes.items ≤ cap → result ≡ Ok bytes) × (cap < length bytes.items → result ≡ Err load.Long)
Ends (Err error) bytes cap result = Refuses error result

-- A writer took all the bytes, or a front of them that is counted.
abbrev pub Writes : List ℕ → Option (List ℕ) → Option (List ℕ) → Result (Unit {0}) ℕ → Type 0
Writes bytes before after (Ok _) = known.Appends before after bytes
Writes bytes before after (Err taken) = (taken ≤ length bytes) × known.Appends before after (take taken bytes)

-- A writer took a front of a piece, or it failed and took nothing.
abbrev pub WritesPiece : List ℕ → Option (List ℕ) → Option (List ℕ) → Option ℕ → Type 0
WritesPiece piece before after result =
    MatchOption result (known.Keeps before after)
    (λ count. (count ≤ length piece) × known.Appends before after (take count piece))
