-- What the steps of reading a text give.
use Rattle.std.specs.Prelude.{◌≡◌, ◌<◌, ◌≤◌, ℕ, All, List, length, Result, Ok, Err}
use denote.Ref.{Bor}
use Rattle.std.specs.Str.{IsValidUpTo}
use Rattle.og_lex.specs.declared.token.Token.{Token}
use Rattle.og_lex.specs.declared.fault.LexFault.{LexFault}
use Rattle.og_lex.specs.declared.fault.LexFault.TheVariants as lex
use Rattle.og_lex.specs.Spelling.{AreInOrder, IsTokenOf, IsFirstFault}
use Rattle.og_parse.specs.declared.faults.ParseFault.{ParseFault}
use Rattle.og_parse.specs.declared.faults.ParseFault.TheVariants as parse
use Rattle.og_texts.specs.declared.fault.TextFault.{TextFault}
use Rattle.og_texts.specs.declared.fault.TextFault.TheVariants as faults
use Rattle.og_texts.specs.Texts.{longest_text, IsText, HasTokens, start_of}

-- the bytes are no text
abbrev pub IsBadText : List ℕ → TextFault → Type 0
IsBadText bytes faults.TooLong = longest_text < length bytes
IsBadText bytes (faults.BadUtf8 place) = (length bytes ≤ longest_text) × IsValidUpTo bytes place
IsBadText bytes _ = ⊥

-- the bytes have no tokens
abbrev pub EndsEarly : List ℕ → TextFault → Type 0
EndsEarly bytes faults.TooLong = IsBadText bytes faults.TooLong
EndsEarly bytes (faults.BadUtf8 place) = IsBadText bytes (faults.BadUtf8 place)
EndsEarly bytes (faults.BadChar place) = IsText bytes × IsFirstFault bytes (lex.BadChar place)
EndsEarly bytes (faults.OpenText place) = IsText bytes × IsFirstFault bytes (lex.OpenText place)
EndsEarly bytes (faults.WideNumber place) = IsText bytes × IsFirstFault bytes (lex.WideNumber place)
EndsEarly bytes faults.Memory = Unit {0}
EndsEarly bytes _ = ⊥

-- the text of the bytes with its tokens, or why there are none
abbrev pub Tokenizes : List ℕ → Result (Bor (List ℕ) × List Token) TextFault → Type 0
Tokenizes bytes (Ok (text, ts)) =
    (text.now ≡ bytes) × HasTokens bytes ts × AreInOrder 0 (length bytes) ts × All (IsTokenOf bytes) ts
    × (length ts ≤ length bytes)
Tokenizes bytes (Err fault) = EndsEarly bytes fault

abbrev pub of_lex : LexFault → TextFault
of_lex (lex.BadChar at) = faults.BadChar at
of_lex (lex.OpenText at) = faults.OpenText at
of_lex (lex.WideNumber at) = faults.WideNumber at
of_lex lex.Memory = faults.Memory

abbrev pub of_parse : List ℕ → List Token → ParseFault → TextFault
of_parse text ts (parse.Syntax k) = faults.Syntax (start_of text ts k)
of_parse text ts (parse.Deep k) = faults.Deep (start_of text ts k)
of_parse text ts parse.Memory = faults.Memory
