-- What a text is: a program or a strategy file, or what its first fault is, in the order in which it is read: its
-- length, UTF-8, its tokens, and the grammar with its depth.
use Rattle.std.specs.Prelude.{◌≡◌, ◌≢◌, ◌<◌, ◌≤◌, ℕ, List, length, slice_get, Result, Ok, Err}
use Rattle.std.specs.Option.{option_map_or}
use Rattle.std.specs.Str.{IsUtf8, IsValidUpTo}
use Rattle.og_lex.specs.declared.token.Token.{Token}
use Rattle.og_lex.specs.declared.fault.LexFault.TheVariants as lex
use Rattle.og_lex.specs.Spelling.{AreTokens, IsFirstFault}
use Rattle.og_syntax.specs.declared.declarations.Program.{Program}
use Rattle.og_syntax.specs.declared.strategies.StrategyFile.{StrategyFile}
use Rattle.og_parse.specs.declared.faults.ParseFault.{ParseFault}
use Rattle.og_parse.specs.declared.faults.ParseFault.TheVariants as parse
use Rattle.og_parse.specs.Parsed.{ParsesProgram, ParsesStrategy}
use Rattle.og_texts.specs.declared.fault.TextFault.{TextFault}
use Rattle.og_texts.specs.declared.fault.TextFault.TheVariants as faults
use Rattle.og_texts.specs.declared.read.ReadText.{ReadText}

-- how many bytes a text has at the most: 1 MiB
abbrev pub longest_text : ℕ
longest_text = 1048576

-- The bytes are UTF-8 and not too many.
pub record IsText (text : List ℕ) : Type 0 where
  pub short : length text ≤ longest_text
  pub utf8 : IsUtf8 text

-- They have these tokens too.
pub record HasTokens (text : List ℕ) (ts : List Token) : Type 0 where
  pub is_text : IsText text
  pub tokens : AreTokens text ts

-- what the tokens of a text are answered with: a tree, or a fault at the token of that number
abbrev pub Answers : Type 0 → Type 1
Answers T = List ℕ → List Token → Result T ParseFault → Type 0

-- The text's tokens spell the tree, and none is too deep.
pub record IsTextOf {T : Type 0} (parses : Answers T) (text : List ℕ) (tree : T) : Type 0 where
  pub tokens : List Token
  pub has_tokens : HasTokens text tokens
  pub parsed : parses text tokens (Ok tree)

-- where the token of that number starts, and behind the last one where the text ends
abbrev pub start_of : List ℕ → List Token → ℕ → ℕ
start_of text ts k = option_map_or (λ t. t.start) (slice_get ts k) (length text)

-- The text's tokens have a fault of the kind, at the token that starts at the place.
pub record GoesWrong {T : Type 0} (parses : Answers T) (text : List ℕ) (kind : ℕ → ParseFault) (place : ℕ) : Type 0 where
  pub tokens : List Token
  pub has_tokens : HasTokens text tokens
  pub number : ℕ
  pub is_fault : parses text tokens (Err (kind number))
  pub starts : place ≡ start_of text tokens number

-- the first fault of a text, by the step that stops at it
abbrev pub HasFault : {T : Type 0} → Answers T → List ℕ → TextFault → Type 0
HasFault parses text faults.TooLong = longest_text < length text
HasFault parses text (faults.BadUtf8 place) = (length text ≤ longest_text) × IsValidUpTo text place
HasFault parses text (faults.BadChar place) = IsText text × IsFirstFault text (lex.BadChar place)
HasFault parses text (faults.OpenText place) = IsText text × IsFirstFault text (lex.OpenText place)
HasFault parses text (faults.WideNumber place) = IsText text × IsFirstFault text (lex.WideNumber place)
HasFault parses text (faults.Syntax place) = GoesWrong parses text parse.Syntax place
HasFault parses text (faults.Deep place) = GoesWrong parses text parse.Deep place
HasFault parses text faults.Memory = ⊥

abbrev pub IsTextOrFault : {T : Type 0} → Answers T → List ℕ → Result T TextFault → Type 0
IsTextOrFault parses text (Ok tree) = IsTextOf parses text tree
IsTextOrFault parses text (Err fault) = HasFault parses text fault

-- ---- the two kinds of texts

abbrev pub IsProgram : List ℕ → Program → Type 0
IsProgram = IsTextOf ParsesProgram

abbrev pub IsProgramOrFault : List ℕ → Result Program TextFault → Type 0
IsProgramOrFault = IsTextOrFault ParsesProgram

abbrev pub IsStrategyFile : List ℕ → StrategyFile → Type 0
IsStrategyFile = IsTextOf ParsesStrategy

abbrev pub IsStrategyOrFault : List ℕ → Result StrategyFile TextFault → Type 0
IsStrategyOrFault = IsTextOrFault ParsesStrategy

-- ---- what readers answer

-- The text, its tokens and the tree that they spell; or the first fault. Want of memory says nothing.
abbrev pub ReadsText : {T : Type 0} → Answers T → List ℕ → Result (ReadText T) TextFault → Type 0
ReadsText parses text (Ok read) =
    (read.text.now ≡ text) × HasTokens text read.tokens × parses text read.tokens (Ok read.tree)
ReadsText parses text (Err fault) = fault ≢ faults.Memory → HasFault parses text fault

abbrev pub ReadsProgram : List ℕ → Result (ReadText Program) TextFault → Type 0
ReadsProgram = ReadsText ParsesProgram

abbrev pub ReadsStrategy : List ℕ → Result (ReadText StrategyFile) TextFault → Type 0
ReadsStrategy = ReadsText ParsesStrategy
