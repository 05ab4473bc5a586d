-- The meaning of the fakes: files in memory, a sink in memory, and which of their calls fail.
use Rattle.std.specs.Prelude.{◌≡◌, ℕ, ◌+◌, ◌-◌, ◌^◌, ◌==◌, ◌<◌, ◌≤◌, ◌⊎◌, min, List, [], ◌∷◌, ◌++◌, length, take, Bool, true, false, Option, Some, None, if◌then◌else◌, IsSomeAnd, bytes_eq, ⊤, Result, Ok, Err}
use Rattle.std.specs.List.{list_any}
use Rattle.std.specs.declared.alloc.Global.{Global}
use Rattle.std.specs.declared.vec.Vec.{Vec}
use Rattle.og_io.specs.declared.faults.LoadFault.{LoadFault}
use Rattle.og_io.specs.declared.faults.LoadFault.TheVariants as load
use Rattle.og_io.specs.declared.faults.PutFault.{PutFault}
use Rattle.og_io.specs.declared.faults.PutFault.TheVariants as put
use Rattle.og_io.specs.NameLists.{times}
use Rattle.og_io.specs.Outside.{FilesState, SinkState}

-- Files in memory: what was added, in order, the numbers of the calls that are to fail, how many
-- calls were made, the names that were loaded, and those whose loads failed.
pub record Store : Type 0 where
  pub files : List (List ℕ × List ℕ)
  pub failing : List ℕ
  pub calls : ℕ
  pub loaded : List (List ℕ)
  pub failed : List (List ℕ)

-- The later of two, where there is one.
abbrev pub later : {A : Type 0} → Option A → Option A → Option A
later (Some new) old = Some new
later None old = old

-- The bytes last added under a name.
abbrev pub bytes_under : List (List ℕ × List ℕ) → List ℕ → Option (List ℕ)
bytes_under [] name = None
bytes_under (file ∷ files) name = later (bytes_under files name) (if bytes_eq file.0 name then Some file.1 else None)

-- what files in memory tell
abbrev pub files_state : Store → FilesState
files_state store = record { held = bytes_under store.files; loads = times store.loaded; faults = times store.failed }

-- The number of the next call. Past 2 ^ 32 - 1 there is no number that could be told to fail.
abbrev pub next_call : ℕ → ℕ
next_call calls = min (calls + 1) (2 ^ 64 - 1)

abbrev pub is_told : List ℕ → ℕ → Bool
is_told failing call = list_any (λ told. told == call) failing

-- What a load from memory answers, and why: whether its number was told to fail, and what is held.
abbrev pub AnswersLoad : Bool → Option (List ℕ) → ℕ → Result (Vec ℕ Global) LoadFault → Type 0
AnswersLoad told held cap (Ok bytes) = (told ≡ false) × (held ≡ Some bytes.items) × (length bytes.items ≤ cap)
AnswersLoad told held cap (Err load.Failed) = (told ≡ true) ⊎ (held ≡ None)
AnswersLoad told held cap (Err load.Long) = (told ≡ false) × IsSomeAnd held (λ bytes. cap < length bytes)
AnswersLoad told held cap (Err load.Memory) = ⊤

-- The names whose loads failed: one more where this load failed, and else the same.
abbrev pub NotesFault : List ℕ → List (List ℕ) → List (List ℕ) → Result (Vec ℕ Global) LoadFault → Type 0
NotesFault name before after (Ok _) = after ≡ before
NotesFault name before after (Err load.Failed) = after ≡ before ++ name ∷ []
NotesFault name before after (Err load.Long) = after ≡ before
NotesFault name before after (Err load.Memory) = after ≡ before

-- The names that were loaded: one more, or the same for want of memory.
abbrev pub NotesLoad : List ℕ → List (List ℕ) → List (List ℕ) → Result (Vec ℕ Global) LoadFault → Type 0
NotesLoad name before after (Ok _) = after ≡ before ++ name ∷ []
NotesLoad name before after (Err load.Failed) = after ≡ before ++ name ∷ []
NotesLoad name before after (Err load.Long) = after ≡ before ++ name ∷ []
NotesLoad name before after (Err load.Memory) = (after ≡ before ++ name ∷ []) ⊎ (after ≡ before)

-- A sink in memory: what is written, how much more fits without memory, which calls are to fail and
-- after how many bytes, how many calls were made, and how many failed.
pub record Tape : Type 0 where
  pub written : List ℕ
  pub room : ℕ
  pub failing : List (ℕ × ℕ)
  pub calls : ℕ
  pub faults : ℕ

-- what a sink in memory tells
abbrev pub sink_state : Tape → SinkState
sink_state tape = record { written = Some tape.written; puts = tape.calls; faults = tape.faults }

-- After how many bytes a call is to fail: the later word counts.
abbrev pub fails_after : List (ℕ × ℕ) → ℕ → Option ℕ
fails_after [] call = None
fails_after (told ∷ more) call = later (fails_after more call) (if told.0 == call then Some told.1 else None)

-- How many puts failed: one more where this put failed, up to 2 ^ 64 - 1, and else as many.
abbrev pub Counts : ℕ → ℕ → Result (Unit {0}) PutFault → Type 0
Counts before now (Ok _) = now ≡ before
Counts before now (Err put.Failed) = now ≡ min (before + 1) (2 ^ 64 - 1)
Counts before now (Err put.Memory) = now ≡ before

-- What a put into memory answers, and why.
abbrev pub Takes : Tape → Tape → List ℕ → Result (Unit {0}) PutFault → Type 0
Takes old new bytes (Ok _) =
    (fails_after old.failing (next_call old.calls) ≡ None) × (new.written ≡ old.written ++ bytes)
Takes old new bytes (Err put.Failed) =
    (after : ℕ) × (fails_after old.failing (next_call old.calls) ≡ Some after)
    × (new.written ≡ old.written ++ take after bytes)
Takes old new bytes (Err put.Memory) = (new.written ≡ old.written) × (old.room < length bytes)
