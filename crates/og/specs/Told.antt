-- The words that the host tells, and how the program ends.
use Rattle.std.specs.Prelude.{◌≡◌, ℕ, List, [], drop, map, Result, Ok, Err, string_bytes}
use Rattle.std.specs.Process.{exit_status}
use Rattle.std.specs.Vec.Iter.{into_iter_items}
use Rattle.std.specs.declared.alloc.Global.{Global}
use Rattle.std.specs.declared.string.String.{String}
use Rattle.std.specs.declared.vec.IntoIter.{IntoIter}
use Rattle.std.specs.declared.io.Error.{Error}
use Rattle.std.specs.declared.process.ExitCode.{ExitCode}
use Rattle.og_tool.specs.declared.status.Status.{Status}
use Rattle.og_wires.specs.Sites.{Blocks}
use Rattle.og_tool.specs.Codes.{code_of}
use Rattle.og_tool.specs.Ran.{Outside, Ran}

-- the words behind the program's name, and none where the host can't tell them
abbrev pub words_told : Result (IntoIter (String Global) Global) Error → List (List ℕ)
words_told (Ok words) = drop 1 (map string_bytes (into_iter_items words))
words_told (Err error) = []

-- A run of the words, and the exit code of its status.
pub record Ended (blocks : Blocks) (words : List (List ℕ)) (before after : Outside) (exit : ExitCode) : Type 0 where
  pub status : Status
  pub ran : Ran blocks words before after status
  pub code : exit_status exit ≡ code_of status
