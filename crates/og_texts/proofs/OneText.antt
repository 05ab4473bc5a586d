-- A text is one tree and has no fault, or it has one fault and is no tree.
use Rattle.std.proofs.Common.{◌≡◌, ◌≢◌, ◌∙◌, ℕ, ◌<◌, ◌≤◌, List, length, Result, Ok, Err, inl, inr, refl, sym, ap, subst, arith}
use Rattle.std.specs.Str.{IsUtf8, IsValidUpTo}
use Rattle.std.proofs.lemmas.Bool.{cases_lt}
use Rattle.std.proofs.lemmas.List.{take_all}
use Rattle.og_lex.specs.declared.token.Token.{Token}
use Rattle.og_lex.specs.declared.fault.LexFault.{LexFault}
use Rattle.og_lex.specs.declared.fault.LexFault.TheVariants as lex
use Rattle.og_lex.specs.Spelling.{Lexed}
use Rattle.og_parse.specs.declared.faults.ParseFault.{ParseFault}
use Rattle.og_parse.specs.declared.faults.ParseFault.TheVariants as parse
use Rattle.og_texts.specs.declared.fault.TextFault.{TextFault}
use Rattle.og_texts.specs.declared.fault.TextFault.TheVariants as faults
use Rattle.og_texts.specs.Texts.{longest_text, IsText, HasTokens, Answers, IsTextOrFault}
use Rattle.og_texts.specs.Steps.{of_lex, of_parse}

-- what the crate of the tokens says
abbrev pub OneLexing : Type 0
OneLexing =
    (text : List ℕ) (one other : Result (List Token) LexFault) → Lexed text one → Lexed text other
    → one ≢ Err lex.Memory → other ≢ Err lex.Memory → one ≡ other

-- what the crate of the grammar's readers says of one kind of texts
abbrev pub OneAnswer : {T : Type 0} → Answers T → Type 0
OneAnswer {T} parses =
    (text : List ℕ) (ts : List Token) (one other : Result T ParseFault) → parses text ts one → parses text ts other
    → one ≢ Err parse.Memory → other ≢ Err parse.Memory → one ≡ other

no_text : (text : List ℕ) (place : ℕ) → IsValidUpTo text place → IsUtf8 text → ⊥
no_text text place is utf8 =
    is.longest (length text) is.short (subst IsUtf8 (sym (take_all (length text) text (omega arith))) utf8)

same_end : (text : List ℕ) (p q : ℕ) → IsValidUpTo text p → IsValidUpTo text q → p ≡ q
same_end text p q one other = elim (cases_lt p q) [
  | inl less ↦ absurd (one.longest q less other.front)
  | inr past ↦ elim (cases_lt q p) [
    | inl less ↦ absurd (other.longest p less one.front)
    | inr more ↦ omega (arith, past, more)
  ]
]

-- what the answer to the tokens says of the text
abbrev told : {T : Type 0} → List ℕ → List Token → Result T ParseFault → Result T TextFault
told text ts (Ok tree) = Ok tree
told text ts (Err fault) = Err (of_parse text ts fault)

module _ {T : Type 0} (parses : Answers T) (lexing : OneLexing) (answer : OneAnswer parses) (text : List ℕ) where
  too_long : longest_text < length text → (v : Result T TextFault) → IsTextOrFault parses text v → v ≡ Err faults.TooLong
  too_long long (Ok t) is = absurd (omega (arith, long, is.has_tokens.is_text.short))
  too_long long (Err faults.TooLong) is = refl
  too_long long (Err (faults.BadUtf8 p)) is = absurd (omega (arith, long, is.0))
  too_long long (Err (faults.BadChar p)) is = absurd (omega (arith, long, is.0.short))
  too_long long (Err (faults.OpenText p)) is = absurd (omega (arith, long, is.0.short))
  too_long long (Err (faults.WideNumber p)) is = absurd (omega (arith, long, is.0.short))
  too_long long (Err (faults.Syntax p)) is = absurd (omega (arith, long, is.has_tokens.is_text.short))
  too_long long (Err (faults.Deep p)) is = absurd (omega (arith, long, is.has_tokens.is_text.short))
  too_long long (Err faults.Memory) is = absurd is

  not_utf8 : (place : ℕ) → length text ≤ longest_text → IsValidUpTo text place → (v : Result T TextFault)
      → IsTextOrFault parses text v → v ≡ Err (faults.BadUtf8 place)
  not_utf8 place short ends (Ok t) is = absurd (no_text text place ends is.has_tokens.is_text.utf8)
  not_utf8 place short ends (Err faults.TooLong) is = absurd (omega (arith, short, is))
  not_utf8 place short ends (Err (faults.BadUtf8 p)) is = ap (λ n. Err (faults.BadUtf8 n)) (same_end text p place is.1 ends)
  not_utf8 place short ends (Err (faults.BadChar p)) is = absurd (no_text text place ends is.0.utf8)
  not_utf8 place short ends (Err (faults.OpenText p)) is = absurd (no_text text place ends is.0.utf8)
  not_utf8 place short ends (Err (faults.WideNumber p)) is = absurd (no_text text place ends is.0.utf8)
  not_utf8 place short ends (Err (faults.Syntax p)) is = absurd (no_text text place ends is.has_tokens.is_text.utf8)
  not_utf8 place short ends (Err (faults.Deep p)) is = absurd (no_text text place ends is.has_tokens.is_text.utf8)
  not_utf8 place short ends (Err faults.Memory) is = absurd is

  -- a text with a first fault has no tokens
  no_tokens : (fault : LexFault) → fault ≢ lex.Memory → Lexed text (Err fault) → (ts : List Token) → HasTokens text ts → ⊥
  no_tokens fault some lexed ts has =
      let same = lexing text (Err fault) (Ok ts) lexed has.tokens (λ e. some (cc)) (λ e. cc) in cc

  same_lex : (fault other : LexFault) → fault ≢ lex.Memory → other ≢ lex.Memory → Lexed text (Err fault)
      → Lexed text (Err other) → of_lex other ≡ of_lex fault
  same_lex fault other some more lexed is =
      let same = lexing text (Err other) (Err fault) is lexed (λ e. more (cc)) (λ e. some (cc)) in
      let here : other ≡ fault = cc in
      ap of_lex here

  untokenized : (fault : LexFault) → fault ≢ lex.Memory → IsText text → Lexed text (Err fault) → (v : Result T TextFault)
      → IsTextOrFault parses text v → v ≡ Err (of_lex fault)
  untokenized fault some here lexed (Ok t) is = absurd (no_tokens fault some lexed is.tokens is.has_tokens)
  untokenized fault some here lexed (Err faults.TooLong) is = absurd (omega (arith, is, here.short))
  untokenized fault some here lexed (Err (faults.BadUtf8 p)) is = absurd (no_text text p is.1 here.utf8)
  untokenized fault some here lexed (Err (faults.BadChar p)) is = ap Err (same_lex fault (lex.BadChar p) some (λ e. cc) lexed is.1)
  untokenized fault some here lexed (Err (faults.OpenText p)) is = ap Err (same_lex fault (lex.OpenText p) some (λ e. cc) lexed is.1)
  untokenized fault some here lexed (Err (faults.WideNumber p)) is = ap Err (same_lex fault (lex.WideNumber p) some (λ e. cc) lexed is.1)
  untokenized fault some here lexed (Err (faults.Syntax p)) is = absurd (no_tokens fault some lexed is.tokens is.has_tokens)
  untokenized fault some here lexed (Err (faults.Deep p)) is = absurd (no_tokens fault some lexed is.tokens is.has_tokens)
  untokenized fault some here lexed (Err faults.Memory) is = absurd is

  same_tokens : (ts other : List Token) → HasTokens text ts → HasTokens text other → other ≡ ts
  same_tokens ts other one is =
      let same = lexing text (Ok other) (Ok ts) is.tokens one.tokens (λ e. cc) (λ e. cc) in cc

  -- what other tokens are answered with is what these are
  same_told : (ts other : List Token) (r q : Result T ParseFault) → HasTokens text ts → HasTokens text other → parses text ts r
      → parses text other q → r ≢ Err parse.Memory → q ≢ Err parse.Memory → told text other q ≡ told text ts r
  same_told ts other r q one is parsed answered some more =
      let same = same_tokens ts other one is in
      subst (λ l. told text l q ≡ told text ts r) (sym same)
      (ap (told text ts) (answer text ts q r (subst (λ l. parses text l q) same answered) parsed more some))

  tokenized : (ts : List Token) (r : Result T ParseFault) → r ≢ Err parse.Memory → HasTokens text ts → parses text ts r
      → (v : Result T TextFault) → IsTextOrFault parses text v → v ≡ told text ts r
  tokenized ts r some has parsed (Ok t) is =
      same_told ts is.tokens r (Ok t) has is.has_tokens parsed is.parsed some (λ e. cc)
  tokenized ts r some has parsed (Err faults.TooLong) is = absurd (omega (arith, is, has.is_text.short))
  tokenized ts r some has parsed (Err (faults.BadUtf8 p)) is = absurd (no_text text p is.1 has.is_text.utf8)
  tokenized ts r some has parsed (Err (faults.BadChar p)) is = absurd (no_tokens (lex.BadChar p) (λ e. cc) is.1 ts has)
  tokenized ts r some has parsed (Err (faults.OpenText p)) is = absurd (no_tokens (lex.OpenText p) (λ e. cc) is.1 ts has)
  tokenized ts r some has parsed (Err (faults.WideNumber p)) is = absurd (no_tokens (lex.WideNumber p) (λ e. cc) is.1 ts has)
  tokenized ts r some has parsed (Err (faults.Syntax p)) is =
      ap (λ n. Err (faults.Syntax n)) is.starts
      ∙ same_told ts is.tokens r (Err (parse.Syntax is.number)) has is.has_tokens parsed is.is_fault some (λ e. cc)
  tokenized ts r some has parsed (Err (faults.Deep p)) is =
      ap (λ n. Err (faults.Deep n)) is.starts
      ∙ same_told ts is.tokens r (Err (parse.Deep is.number)) has is.has_tokens parsed is.is_fault some (λ e. cc)
  tokenized ts r some has parsed (Err faults.Memory) is = absurd is

  pub one_text : (one other : Result T TextFault) → IsTextOrFault parses text one → IsTextOrFault parses text other → one ≡ other
  one_text (Ok t) other is more = sym (tokenized is.tokens (Ok t) (λ e. cc) is.has_tokens is.parsed other more)
  one_text (Err faults.TooLong) other is more = sym (too_long is other more)
  one_text (Err (faults.BadUtf8 p)) other is more = sym (not_utf8 p is.0 is.1 other more)
  one_text (Err (faults.BadChar p)) other is more = sym (untokenized (lex.BadChar p) (λ e. cc) is.0 is.1 other more)
  one_text (Err (faults.OpenText p)) other is more = sym (untokenized (lex.OpenText p) (λ e. cc) is.0 is.1 other more)
  one_text (Err (faults.WideNumber p)) other is more = sym (untokenized (lex.WideNumber p) (λ e. cc) is.0 is.1 other more)
  one_text (Err (faults.Syntax p)) other is more =
      ap (λ n. Err (faults.Syntax n)) is.starts
      ∙ sym (tokenized is.tokens (Err (parse.Syntax is.number)) (λ e. cc) is.has_tokens is.is_fault other more)
  one_text (Err (faults.Deep p)) other is more =
      ap (λ n. Err (faults.Deep n)) is.starts
      ∙ sym (tokenized is.tokens (Err (parse.Deep is.number)) (λ e. cc) is.has_tokens is.is_fault other more)
  one_text (Err faults.Memory) other is more = absurd is
