-- Which texts are small games and small strategies.
use Rattle.std.specs.Prelude.{◌≡◌, ◌≢◌, ℕ, nat_lt, Bool, true, ◌&&◌, Option, None, Some, MatchOption, List, [], ◌∷◌, drop, slice_range, Result, Ok, Err}
use Rattle.std.specs.List.{list_all}
use Rattle.og_lex.specs.declared.token.Token.{Token}
use Rattle.og_lex.specs.Characters.{is_blank}
use Rattle.og_syntax.specs.declared.declarations.Program.{Program}
use Rattle.og_syntax.specs.declared.strategies.StrategyFile.{StrategyFile}
use Rattle.og_parse.specs.Parsed.{ParsesProgram, ParsesStrategy}
use Rattle.og_texts.specs.declared.fault.TextFault.{TextFault}
use Rattle.og_texts.specs.declared.fault.TextFault.TheVariants as faults
use Rattle.og_texts.specs.Texts.{IsProgram, IsStrategyFile, HasFault}
use Rattle.og_small.specs.declared.tree.SmallGame.{SmallGame}
use Rattle.og_small.specs.declared.tree.Section.{Section}
use Rattle.og_small.specs.Accepted.{IsAccepted}
use Rattle.og_read.specs.Spelled.{SpellsGame, SpellsStrategy}
use Rattle.og_typing.specs.declared.fault.WireFault.{WireFault}
use Rattle.og_typing.specs.declared.fault.WireFault.TheVariants as wires
use Rattle.og_wires.specs.Sites.{Blocks}
use Rattle.og_wires.specs.Programs.{IsWired, Breaks}
use Rattle.og_tool.specs.declared.read.GameFault.{GameFault}
use Rattle.og_tool.specs.declared.read.GameFault.TheVariants.{Text, Wire}

-- From a place on, only blanks stand round the tokens.
abbrev pub are_gaps_blank : List ℕ → ℕ → List Token → Bool
are_gaps_blank text place [] = list_all is_blank (drop place text)
are_gaps_blank text place (t ∷ ts) =
    list_all is_blank (slice_range text place t.start) && are_gaps_blank text t.end ts

abbrev pub is_ascii : List ℕ → Bool
is_ascii text = list_all (λ byte. nat_lt byte 128) text

-- A text with these tokens is of ASCII and has no comment.
abbrev pub is_plain : List ℕ → List Token → Bool
is_plain text ts = is_ascii text && are_gaps_blank text 0 ts

-- The text with these tokens is plain, they spell this small game, and that is accepted.
pub record IsSmallGame (text : List ℕ) (ts : List Token) (tree : SmallGame) : Type 0 where
  pub plain : is_plain text ts ≡ true
  pub spelled : SpellsGame text ts tree
  pub accepted : IsAccepted tree

-- The text with these tokens is plain, and they spell these sections.
pub record IsSmallStrategy (text : List ℕ) (ts : List Token) (sections : List Section) : Type 0 where
  pub plain : is_plain text ts ≡ true
  pub spelled : SpellsStrategy text ts sections

-- The text is a program that is this small game.
pub record IsGame (text : List ℕ) (tree : SmallGame) : Type 0 where
  pub program : Program
  pub is_program : IsProgram text program
  pub is_small : IsSmallGame text is_program.tokens tree

-- The text is a program that breaks no rule of the wiring, and is this small game.
pub record IsWiredGame (blocks : Blocks) (text : List ℕ) (tree : SmallGame) : Type 0 where
  pub is_game : IsGame text tree
  pub wired : IsWired blocks is_game.program

-- The text is a strategy file that is this small strategy.
pub record IsStrategy (text : List ℕ) (sections : List Section) : Type 0 where
  pub file : StrategyFile
  pub is_file : IsStrategyFile text file
  pub is_small : IsSmallStrategy text is_file.tokens sections

-- The text is a program, and no small game that is accepted.
pub record IsNoGame (text : List ℕ) : Type 0 where
  pub program : Program
  pub is_program : IsProgram text program
  pub none : (tree : SmallGame) → IsGame text tree → ⊥

-- The text is a program that breaks no rule of the wiring, and no small game that is accepted.
pub record IsUnbuilt (blocks : Blocks) (text : List ℕ) : Type 0 where
  pub no_game : IsNoGame text
  pub wired : IsWired blocks no_game.program

-- The text is a program that breaks this rule of the wiring first.
pub record IsMiswired (blocks : Blocks) (text : List ℕ) (fault : WireFault) : Type 0 where
  pub program : Program
  pub is_program : IsProgram text program
  pub broken : Breaks blocks program fault

-- The text is a strategy file, and no small strategy.
pub record IsNoStrategy (text : List ℕ) : Type 0 where
  pub file : StrategyFile
  pub is_file : IsStrategyFile text file
  pub none : (sections : List Section) → IsStrategy text sections → ⊥

-- ---- what readers answer

abbrev pub FindsGame : List ℕ → List Token → Option SmallGame → Type 0
FindsGame text ts found =
    MatchOption found ((tree : SmallGame) → IsSmallGame text ts tree → ⊥) (IsSmallGame text ts)

abbrev pub FindsStrategy : List ℕ → List Token → Option (List Section) → Type 0
FindsStrategy text ts found =
    MatchOption found ((sections : List Section) → IsSmallStrategy text ts sections → ⊥) (IsSmallStrategy text ts)

abbrev pub ReadsGame : Blocks → List ℕ → Result (Option SmallGame) GameFault → Type 0
ReadsGame blocks text (Ok (Some tree)) = IsWiredGame blocks text tree
ReadsGame blocks text (Ok None) = IsUnbuilt blocks text
ReadsGame blocks text (Err (Text fault)) = fault ≢ faults.Memory → HasFault ParsesProgram text fault
ReadsGame blocks text (Err (Wire fault)) = fault ≢ wires.Memory → IsMiswired blocks text fault

abbrev pub ReadsStrategy : List ℕ → Result (Option (List Section)) TextFault → Type 0
ReadsStrategy text (Ok (Some sections)) = IsStrategy text sections
ReadsStrategy text (Ok None) = IsNoStrategy text
ReadsStrategy text (Err fault) = fault ≢ faults.Memory → HasFault ParsesStrategy text fault
