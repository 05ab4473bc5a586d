-- The two halves of a run on a command: what came of the game's file, and then of the strategy's.
use Rattle.std.specs.Prelude.{◌⊎◌, ℕ, List, [], ◌∷◌, codes}
use Rattle.og_io.specs.Outside.{FilesState}
use Rattle.og_small.specs.declared.tree.SmallGame.{SmallGame}
use Rattle.og_tool.specs.declared.status.Status.TheVariants as ends
use Rattle.og_tool.specs.declared.answer.Answer.{Answer}
use Rattle.og_tool.specs.declared.answer.GameStep.{GameStep}
use Rattle.og_tool.specs.declared.answer.GameStep.TheVariants.{Accepted, Refused}
use Rattle.og_tool.specs.Held.{HeldHas}
use Rattle.og_wires.specs.Sites.{Blocks}
use Rattle.og_tool.specs.Texts.{IsWiredGame}
use Rattle.og_tool.specs.Answer.{IsRefusal, RefusesGame, AnswersStrategy}
use Rattle.og_tool.specs.Ran.{ReadsAll, FailsAt, StopsAtGame, MissesGame}

-- what the text of a game comes to
abbrev pub TellsGame : Blocks → List ℕ → GameStep → Type 0
TellsGame blocks text (Accepted tree) = IsWiredGame blocks text tree
TellsGame blocks text (Refused answer) = RefusesGame blocks text answer

abbrev pub StepsToGame : Blocks → List ℕ → FilesState → FilesState → GameStep → Type 0
StepsToGame blocks file before after (Accepted tree) =
    ReadsAll (file ∷ []) before after × HeldHas (before.held file) (λ text. IsWiredGame blocks text tree)
StepsToGame blocks file before after (Refused answer) =
    MissesGame file before after answer ⊎ StopsAtGame blocks file before after answer

abbrev pub StepsToStrategy : SmallGame → List ℕ → FilesState → FilesState → Answer → Type 0
StepsToStrategy tree file before after answer =
    (FailsAt file (file ∷ []) before after × IsRefusal ends.ReadFault (codes "read strategy") answer)
    ⊎ (ReadsAll (file ∷ []) before after × HeldHas (before.held file) (λ text. AnswersStrategy tree text answer))
