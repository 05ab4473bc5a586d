-- What is answered: the line of a refusal, or the report on a game under a strategy.
use Rattle.std.specs.Prelude.{◌≡◌, ◌↔◌, ◌⊎◌, ℕ, List, [], ◌∷◌, ◌++◌, length, ◌==◌, if◌then◌else◌, codes, decimal}
use Rattle.og_parse.specs.Parsed.{ParsesProgram, ParsesStrategy}
use Rattle.og_texts.specs.declared.fault.TextFault.{TextFault}
use Rattle.og_texts.specs.Faults.{code_of, place_of}
use Rattle.og_texts.specs.Places.{line_of, column_of}
use Rattle.og_texts.specs.Texts.{HasFault, IsStrategyFile}
use Rattle.og_small.specs.declared.tree.SmallGame.{SmallGame}
use Rattle.og_small.specs.declared.tree.Section.{Section}
use Rattle.og_small.specs.Accepted.{Fits}
use Rattle.og_small.specs.Meaning.{choices_of, deviations}
use Rattle.og_small.specs.Equilibrium.{IsEquilibrium}
use Rattle.og_small.specs.Report.{report}
use Rattle.og_syntax.specs.declared.strategies.StrategyFile.{StrategyFile}
use Rattle.og_tool.specs.declared.status.Status.{Status}
use Rattle.og_tool.specs.declared.status.Status.TheVariants as ends
use Rattle.og_tool.specs.declared.answer.Answer.{Answer}
use Rattle.og_typing.specs.declared.fault.WireFault.{WireFault}
use Rattle.og_typing.specs.Faults as wires
use Rattle.og_wires.specs.Sites.{Blocks}
use Rattle.og_tool.specs.Texts.{IsWiredGame, IsUnbuilt, IsMiswired, IsStrategy}

-- An answer has the bytes to write, and the status to end with where all of them are written.

-- The answer is the line of this refusal, and ends so.
pub record IsRefusal (end : Status) (why : List ℕ) (answer : Answer) : Type 0 where
  pub status : answer.status ≡ end
  pub bytes : answer.bytes ≡ codes "refused " ++ (why ++ 10 ∷ [])

-- what refuses the text for a fault of this name at this place: which text it is, the name, the line and the column
abbrev pub named_at : List ℕ → List ℕ → List ℕ → ℕ → List ℕ
named_at which text code place =
    which ++ (codes " " ++ (code ++ (codes " at " ++ (decimal (line_of text place)
    ++ (codes ":" ++ decimal (column_of text place))))))

abbrev pub fault_at : List ℕ → List ℕ → TextFault → List ℕ
fault_at which text fault = named_at which text (code_of fault) (place_of fault)

abbrev pub wire_fault_at : List ℕ → WireFault → List ℕ
wire_fault_at text fault = named_at (codes "game") text (wires.code_of fault) (wires.place_of fault)

-- ---- games

-- The game's text has a fault.
pub record RefusesFaultyGame (game : List ℕ) (answer : Answer) : Type 0 where
  pub fault : TextFault
  pub cause : HasFault ParsesProgram game fault
  pub refusal : IsRefusal ends.GameText (fault_at (codes "game") game fault) answer

-- The game's text is a program that breaks a rule of the wiring.
pub record RefusesMiswiredGame (blocks : Blocks) (game : List ℕ) (answer : Answer) : Type 0 where
  pub fault : WireFault
  pub cause : IsMiswired blocks game fault
  pub refusal : IsRefusal ends.GameText (wire_fault_at game fault) answer

-- The game's text is a program that breaks no rule, and no small game.
pub record RefusesUnbuiltGame (blocks : Blocks) (game : List ℕ) (answer : Answer) : Type 0 where
  pub cause : IsUnbuilt blocks game
  pub refusal : IsRefusal ends.GameText (codes "game NotBuilt at 1:1") answer

abbrev pub RefusesGame : Blocks → List ℕ → Answer → Type 0
RefusesGame blocks game answer =
    RefusesFaultyGame game answer ⊎ RefusesMiswiredGame blocks game answer ⊎ RefusesUnbuiltGame blocks game answer

-- ---- strategies, behind an accepted game

-- The strategy's text has a fault.
pub record RefusesFaultyStrategy (strategy : List ℕ) (answer : Answer) : Type 0 where
  pub fault : TextFault
  pub cause : HasFault ParsesStrategy strategy fault
  pub refusal : IsRefusal ends.StrategyText (fault_at (codes "strategy") strategy fault) answer

-- The strategy's text is a strategy file, and no small strategy that fits the game.
pub record RefusesUnbuiltStrategy (tree : SmallGame) (strategy : List ℕ) (answer : Answer) : Type 0 where
  pub file : StrategyFile
  pub is_file : IsStrategyFile strategy file
  pub cause : (sections : List Section) → IsStrategy strategy sections → Fits tree sections → ⊥
  pub refusal : IsRefusal ends.StrategyText (codes "strategy NotBuilt at 1:1") answer

-- how a run ends that writes a report: whether it lists a deviation
abbrev pub verdict_of : SmallGame → List Section → Status
verdict_of tree sections =
    if length (deviations tree (choices_of sections)) == 0 then ends.Done else ends.Deviations

-- The strategy's text fits the game, and the answer is the report.
pub record Reports (tree : SmallGame) (strategy : List ℕ) (answer : Answer) : Type 0 where
  pub sections : List Section
  pub is_strategy : IsStrategy strategy sections
  pub suits : Fits tree sections
  pub status : answer.status ≡ verdict_of tree sections
  pub equilibrium : (answer.status ≡ ends.Done) ↔ IsEquilibrium tree (choices_of sections)
  pub bytes : answer.bytes ≡ report tree (choices_of sections)

-- what a strategy's text is answered with, behind an accepted game
abbrev pub AnswersStrategy : SmallGame → List ℕ → Answer → Type 0
AnswersStrategy tree strategy answer =
    RefusesFaultyStrategy strategy answer ⊎ RefusesUnbuiltStrategy tree strategy answer ⊎ Reports tree strategy answer

-- The game's text is a small game, and the strategy's text is answered.
pub record AcceptsGame (blocks : Blocks) (game strategy : List ℕ) (answer : Answer) : Type 0 where
  pub tree : SmallGame
  pub is_game : IsWiredGame blocks game tree
  pub answers : AnswersStrategy tree strategy answer

-- what two texts are answered with
abbrev pub Answers : Blocks → List ℕ → List ℕ → Answer → Type 0
Answers blocks game strategy answer = RefusesGame blocks game answer ⊎ AcceptsGame blocks game strategy answer
