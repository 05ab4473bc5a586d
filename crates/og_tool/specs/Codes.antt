-- The exit status of the program, by how the run ended.
use Rattle.std.specs.Prelude.{ℕ}
use Rattle.og_tool.specs.declared.status.Status.{Status}
use Rattle.og_tool.specs.declared.status.Status.TheVariants.{Done, Deviations, Words, GameText, StrategyText, Passes, ReadFault, WriteFault, Memory}

abbrev pub code_of : Status → ℕ
code_of Done = 0
code_of Deviations = 1
code_of Words = 2
code_of GameText = 3
code_of StrategyText = 4
code_of Passes = 5
code_of ReadFault = 6
code_of WriteFault = 7
code_of Memory = 8
