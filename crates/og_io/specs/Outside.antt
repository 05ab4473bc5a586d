-- What stands outside, and what a read or a write does to it.
use Rattle.std.specs.Prelude.{◌≡◌, ℕ, ◌+◌, ◌-◌, ◌^◌, ◌<◌, ◌≤◌, min, List, [], ◌∷◌, ◌++◌, length, take, Option, None, Result, Ok, Err, IfSome, ⊤}
use Rattle.std.specs.Option.{option_map}
use Rattle.std.specs.declared.alloc.Global.{Global}
use Rattle.std.specs.declared.vec.Vec.{Vec}
use Rattle.og_io.specs.declared.faults.LoadFault.{LoadFault}
use Rattle.og_io.specs.declared.faults.LoadFault.TheVariants as load
use Rattle.og_io.specs.declared.faults.PutFault.{PutFault}
use Rattle.og_io.specs.declared.faults.PutFault.TheVariants as put
use Rattle.og_io.specs.NameLists.{times}

-- The state of files: the bytes held under each name, where they are told, how often each name was
-- loaded, and how many of its loads failed.
pub record FilesState : Type 0 where
  pub held : List ℕ → Option (List ℕ)
  pub loads : List ℕ → ℕ
  pub faults : List ℕ → ℕ

-- The state of a sink: the bytes written so far, where they are told, how many puts there were, and how
-- many of them failed.
pub record SinkState : Type 0 where
  pub written : Option (List ℕ)
  pub puts : ℕ
  pub faults : ℕ

-- the state of files that tell no bytes, by the names that were loaded and those whose loads failed
abbrev pub untold_files : List (List ℕ) → List (List ℕ) → FilesState
untold_files loaded failed = record { held = λ _. None; loads = times loaded; faults = times failed }

-- the state of a sink that tells no bytes
abbrev pub untold_sink : ℕ → ℕ → SinkState
untold_sink puts faults = record { written = None; puts = puts; faults = faults }

-- ---- files

-- What is held stays.
abbrev pub KeepsHeld : FilesState → FilesState → Type 0
KeepsHeld before after = (name : List ℕ) → after.held name ≡ before.held name

-- No count of names moved.
abbrev pub IsUnmoved : (List ℕ → ℕ) → (List ℕ → ℕ) → Type 0
IsUnmoved before after = (name : List ℕ) → after name ≡ before name

-- Each name's count rose by how often it stands in the list.
abbrev pub GrowsBy : List (List ℕ) → (List ℕ → ℕ) → (List ℕ → ℕ) → Type 0
GrowsBy names before after = (name : List ℕ) → after name ≡ before name + times names name

-- No name's count fell, or rose by more than how often it stands in the list.
pub record GrowsAtMost (names : List (List ℕ)) (before after : List ℕ → ℕ) : Type 0 where
  pub never_falls : (name : List ℕ) → before name ≤ after name
  pub at_most : (name : List ℕ) → after name ≤ before name + times names name

-- Nothing was done to files but to load these, each at most as often as it stands in the list.
pub record OnlyLoads (names : List (List ℕ)) (before after : FilesState) : Type 0 where
  pub held : KeepsHeld before after
  pub loads : GrowsAtMost names before.loads after.loads
  pub faults : GrowsAtMost names before.faults after.faults

-- A load counts once. One without memory may not count.
abbrev pub CountsLoad : List ℕ → FilesState → FilesState → Result (Vec ℕ Global) LoadFault → Type 0
CountsLoad name before after (Ok _) = GrowsBy (name ∷ []) before.loads after.loads
CountsLoad name before after (Err load.Failed) = GrowsBy (name ∷ []) before.loads after.loads
CountsLoad name before after (Err load.Long) = GrowsBy (name ∷ []) before.loads after.loads
CountsLoad name before after (Err load.Memory) = ⊤

-- A load that failed is a fault of its name, and no other is.
abbrev pub CountsFault : List ℕ → FilesState → FilesState → Result (Vec ℕ Global) LoadFault → Type 0
CountsFault name before after (Ok _) = IsUnmoved before.faults after.faults
CountsFault name before after (Err load.Failed) = GrowsBy (name ∷ []) before.faults after.faults
CountsFault name before after (Err load.Long) = IsUnmoved before.faults after.faults
CountsFault name before after (Err load.Memory) = IsUnmoved before.faults after.faults

-- What was read is all that is held, where that is told, and isn't longer than the cap. It is refused as
-- long where it is longer.
abbrev pub LoadsHeld : Option (List ℕ) → ℕ → Result (Vec ℕ Global) LoadFault → Type 0
LoadsHeld held cap (Ok bytes) = (length bytes.items ≤ cap) × IfSome held (λ told. bytes.items ≡ told)
LoadsHeld held cap (Err load.Failed) = ⊤
LoadsHeld held cap (Err load.Long) = IfSome held (λ told. cap < length told)
LoadsHeld held cap (Err load.Memory) = ⊤

-- ---- sinks

-- A count rose by one. It ends at 2 ^ 64 - 1, where it may stand still.
pub record RisesOnce (before after : ℕ) : Type 0 where
  pub never_falls : before ≤ after
  pub at_most : after ≤ before + 1
  pub rose : min (before + 1) (2 ^ 64 - 1) ≤ after

-- What is written grew by these bytes, where it is told.
abbrev pub Appends : List ℕ → Option (List ℕ) → Option (List ℕ) → Type 0
Appends bytes before after = after ≡ option_map (λ written. written ++ bytes) before

-- One put that took all the bytes.
pub record TakesAll (bytes : List ℕ) (before after : SinkState) : Type 0 where
  pub one_put : RisesOnce before.puts after.puts
  pub written : Appends bytes before.written after.written
  pub no_fault : after.faults ≡ before.faults

-- One put that failed, and took a front of the bytes.
pub record TakesFront (bytes : List ℕ) (before after : SinkState) : Type 0 where
  pub one_put : RisesOnce before.puts after.puts
  pub taken : ℕ
  pub written : Appends (take taken bytes) before.written after.written
  pub one_fault : RisesOnce before.faults after.faults

-- One put that took nothing, and is no fault.
pub record TakesNone (before after : SinkState) : Type 0 where
  pub one_put : RisesOnce before.puts after.puts
  pub written : after.written ≡ before.written
  pub no_fault : after.faults ≡ before.faults

-- A put took all bytes, or it failed after a front of them, or it took none for want of memory.
abbrev pub Puts : List ℕ → SinkState → SinkState → Result (Unit {0}) PutFault → Type 0
Puts bytes before after (Ok _) = TakesAll bytes before after
Puts bytes before after (Err put.Failed) = TakesFront bytes before after
Puts bytes before after (Err put.Memory) = TakesNone before after
