-- What a run does: the theorem of the program.
use Rattle.std.specs.Prelude.{◌≡◌, ◌⊎◌, ℕ, List, [], ◌∷◌, Option, Some, None, IsSome, codes, ⊤}
use Rattle.og_io.specs.Outside.{FilesState, SinkState, GrowsBy, IsUnmoved, OnlyLoads, TakesAll, TakesFront, TakesNone}
use Rattle.og_small.specs.declared.tree.SmallGame.{SmallGame}
use Rattle.og_tool.specs.declared.status.Status.{Status}
use Rattle.og_tool.specs.declared.status.Status.TheVariants as ends
use Rattle.og_tool.specs.declared.answer.Answer.{Answer}
use Rattle.og_tool.specs.Command.{Command, command_of, files_of}
use Rattle.og_tool.specs.Held.{MayHold}
use Rattle.og_wires.specs.Sites.{Blocks}
use Rattle.og_tool.specs.Texts.{IsWiredGame}
use Rattle.og_tool.specs.Answer.{IsRefusal, RefusesGame, AcceptsGame}

-- What stands outside the program.
pub record Outside : Type 0 where
  pub files : FilesState
  pub out : SinkState

-- ---- what is read

-- These names were loaded, each as often as it stands in the list, and no load failed.
pub record ReadsAll (names : List (List ℕ)) (before after : FilesState) : Type 0 where
  pub loads : GrowsBy names before.loads after.loads
  pub no_fault : IsUnmoved before.faults after.faults

-- These names were loaded, each as often as it stands in the list, and one load of this file failed.
pub record FailsAt (file : List ℕ) (names : List (List ℕ)) (before after : FilesState) : Type 0 where
  pub loads : GrowsBy names before.loads after.loads
  pub one_fault : GrowsBy (file ∷ []) before.faults after.faults

-- ---- what is answered

-- The words are no command. No file is read.
pub record AnswersNoCommand (before after : FilesState) (answer : Answer) : Type 0 where
  pub reads : ReadsAll [] before after
  pub refusal : IsRefusal ends.Words (codes "words") answer

-- The game can't be read.
pub record MissesGame (file : List ℕ) (before after : FilesState) (answer : Answer) : Type 0 where
  pub fails : FailsAt file (file ∷ []) before after
  pub refusal : IsRefusal ends.ReadFault (codes "read game") answer

-- The game that is held is refused. The strategy isn't read.
pub record StopsAtGame (blocks : Blocks) (file : List ℕ) (before after : FilesState) (answer : Answer) : Type 0 where
  pub reads : ReadsAll (file ∷ []) before after
  pub game : List ℕ
  pub game_held : MayHold (before.held file) game
  pub refuses : RefusesGame blocks game answer

-- The game that is held is accepted, and the strategy can't be read.
pub record MissesStrategy (blocks : Blocks) (command : Command) (before after : FilesState) (answer : Answer) : Type 0 where
  pub fails : FailsAt command.strategy (command.game ∷ command.strategy ∷ []) before after
  pub game : List ℕ
  pub game_held : MayHold (before.held command.game) game
  pub tree : SmallGame
  pub is_game : IsWiredGame blocks game tree
  pub refusal : IsRefusal ends.ReadFault (codes "read strategy") answer

-- The game that is held is accepted, and the strategy that is held is answered.
pub record JudgesBoth (blocks : Blocks) (command : Command) (before after : FilesState) (answer : Answer) : Type 0 where
  pub reads : ReadsAll (command.game ∷ command.strategy ∷ []) before after
  pub game : List ℕ
  pub game_held : MayHold (before.held command.game) game
  pub strategy : List ℕ
  pub strategy_held : MayHold (before.held command.strategy) strategy
  pub answers : AcceptsGame blocks game strategy answer

-- What is answered to the words, by what is held, with the library's blocks.
abbrev pub AnswersWords : Blocks → Option Command → FilesState → FilesState → Answer → Type 0
AnswersWords blocks None before after answer = AnswersNoCommand before after answer
AnswersWords blocks (Some command) before after answer =
    MissesGame command.game before after answer
    ⊎ StopsAtGame blocks command.game before after answer
    ⊎ MissesStrategy blocks command before after answer
    ⊎ JudgesBoth blocks command before after answer

-- The texts that a command names are told.
abbrev pub TellsTexts : Option Command → FilesState → Type 0
TellsTexts None files = ⊤
TellsTexts (Some command) files = IsSome (files.held command.game) × IsSome (files.held command.strategy)

-- ---- what is written

-- The answer is written whole, by one put.
pub record WritesAnswer (blocks : Blocks) (words : List (List ℕ)) (before after : Outside) (status : Status) : Type 0 where
  pub answer : Answer
  pub answers : AnswersWords blocks (command_of words) before.files after.files answer
  pub ends_so : status ≡ answer.status
  pub written : TakesAll answer.bytes before.out after.out

-- A front of the answer is written, by one put that failed.
pub record FailsToWrite (blocks : Blocks) (words : List (List ℕ)) (before after : Outside) (status : Status) : Type 0 where
  pub answer : Answer
  pub answers : AnswersWords blocks (command_of words) before.files after.files answer
  pub ends_so : status ≡ ends.WriteFault
  pub written : TakesFront answer.bytes before.out after.out

-- Memory ran out: nothing is put, or one put took nothing.
pub record RunsOut (before after : Outside) (status : Status) : Type 0 where
  pub ends_so : status ≡ ends.Memory
  pub unwritten : (after.out ≡ before.out) ⊎ TakesNone before.out after.out

-- ---- the theorem

-- A run of the words, with the library's blocks, changes nothing of the files but their counts, and loads no file more often than the
-- words name it. It writes the answer by one put, or a front of it by one put that failed, or nothing for
-- want of memory, and ends with the status that says so.
pub record Ran (blocks : Blocks) (words : List (List ℕ)) (before after : Outside) (status : Status) : Type 0 where
  pub files : OnlyLoads (files_of (command_of words)) before.files after.files
  pub out : WritesAnswer blocks words before after status
      ⊎ FailsToWrite blocks words before after status
      ⊎ RunsOut before after status
