-- The tokens of a text as a function of its characters, read from the left.
use Rattle.std.specs.Prelude.{ℕ, zero, suc, ◌+◌, ◌-◌, ◌^◌, Bool, ◌==◌, nat_lt, if◌then◌else◌, List, [], ◌∷◌, ◌++◌, length, codes, Option, Some, None, Result, Ok, Err}
use Rattle.std.specs.Str.{chars, bytes_eq}
use Rattle.std.specs.Str.Parse.{digits_value}
use Rattle.unicode_ident.specs.Ident.{is_xid_start, is_xid_continue}
use Rattle.og_lex.specs.declared.token.Kind.{Kind}
use Rattle.og_lex.specs.declared.token.Kind.TheVariants as kinds
use Rattle.og_lex.specs.declared.token.Word.{Word}
use Rattle.og_lex.specs.declared.token.Mark.{Mark}
use Rattle.og_lex.specs.declared.token.Token.{Token}
use Rattle.og_lex.specs.declared.fault.LexFault.{LexFault}
use Rattle.og_lex.specs.declared.fault.LexFault.TheVariants as faults
use Rattle.og_lex.specs.Characters.{is_blank, is_digit, is_in_text, is_in_comment, is_hyphen, run, behind, byte_len}
use Rattle.og_lex.specs.Tables.{word_text, mark_text, all_words, all_marks}

-- What stands at a place, and the characters after it: a token of the kind, or a blank or comment.
abbrev pub Read : Type 0
Read = Result (Option Kind × List ℕ) LexFault

-- what follows the front, if the characters begin with it
abbrev pub strip : List ℕ → List ℕ → Option (List ℕ)
strip [] cs = Some cs
strip (x ∷ front) [] = None
strip (x ∷ front) (c ∷ cs) = if x == c then strip front cs else None

-- whether the two lists are one
abbrev pub same : List ℕ → List ℕ → Bool
same = bytes_eq

-- the first of the words that is written so
abbrev pub word_among : List Word → List ℕ → Option Word
word_among [] name = None
word_among (w ∷ ws) name = if same (word_text w) name then Some w else word_among ws name

unfoldable pub word_of : List ℕ → Option Word
word_of name = word_among all_words name

-- a name is the reserved word that is written so, if there is one
abbrev pub kind_of : Option Word → Kind
kind_of None = kinds.Name
kind_of (Some w) = kinds.Word w

unfoldable pub name_at : List ℕ → Kind × List ℕ
name_at cs = (kind_of (word_of (run is_xid_continue cs)), behind is_xid_continue cs)

unfoldable pub under_at : ℕ → List ℕ → Result (Kind × List ℕ) LexFault
under_at place cs =
    if nat_lt 1 (byte_len (run is_xid_continue cs)) then Ok (kinds.Under, behind is_xid_continue cs)
    else Err (faults.BadChar place)

-- the value of one digit or more, if it is below 2 ^ 63
abbrev pub number_of : List ℕ → Option ℕ
number_of [] = None
number_of (d ∷ ds) =
    if nat_lt (digits_value 10 (d ∷ ds)) (2 ^ 63) then Some (digits_value 10 (d ∷ ds)) else None

abbrev pub number_or_fault : ℕ → Option ℕ → List ℕ → Result (Kind × List ℕ) LexFault
number_or_fault place None rest = Err (faults.WideNumber place)
number_or_fault place (Some n) rest = Ok (kinds.Number n, rest)

unfoldable pub number_at : ℕ → List ℕ → Result (Kind × List ℕ) LexFault
number_at place cs = number_or_fault place (number_of (run is_digit cs)) (behind is_digit cs)

abbrev pub text_or_fault : ℕ → Option (List ℕ) → Result (Kind × List ℕ) LexFault
text_or_fault place None = Err (faults.OpenText place)
text_or_fault place (Some rest) = Ok (kinds.Text, rest)

-- after is what follows the first double quote
unfoldable pub text_at : ℕ → List ℕ → Result (Kind × List ℕ) LexFault
text_at place after = text_or_fault place (strip (34 ∷ []) (behind is_in_text after))

-- what follows a separator whose first colon stands before these characters
unfoldable pub separator_end : List ℕ → Option (List ℕ)
separator_end after =
    if nat_lt (byte_len (run is_hyphen after)) 3 then None
    else strip (58 ∷ []) (behind is_hyphen after)

-- the first of the marks with which the characters begin, and what follows it
abbrev pub or_mark : Mark → Option (List ℕ) → Option (Mark × List ℕ) → Option (Mark × List ℕ)
or_mark m None other = other
or_mark m (Some rest) other = Some (m, rest)

abbrev pub mark_among : List Mark → List ℕ → Option (Mark × List ℕ)
mark_among [] cs = None
mark_among (m ∷ ms) cs = or_mark m (strip (mark_text m) cs) (mark_among ms cs)

unfoldable pub mark_at : List ℕ → Option (Mark × List ℕ)
mark_at cs = mark_among all_marks cs

abbrev pub mark_or_fault : ℕ → Option (Mark × List ℕ) → Result (Kind × List ℕ) LexFault
mark_or_fault place None = Err (faults.BadChar place)
mark_or_fault place (Some (m, rest)) = Ok (kinds.Mark m, rest)

abbrev pub separator_or : Option (List ℕ) → Result (Kind × List ℕ) LexFault → Result (Kind × List ℕ) LexFault
separator_or None other = other
separator_or (Some rest) other = Ok (kinds.Separator, rest)

-- cs begins with c, and goes on with after
unfoldable pub symbol_at : ℕ → ℕ → List ℕ → List ℕ → Result (Kind × List ℕ) LexFault
symbol_at place c after cs =
    separator_or (if c == 58 then separator_end after else None) (mark_or_fault place (mark_at cs))

-- the token at the place, and what follows it
unfoldable pub token_at : ℕ → List ℕ → Result (Kind × List ℕ) LexFault
token_at place [] = Err (faults.BadChar place)
token_at place (c ∷ cs) =
    if is_xid_start c then Ok (name_at (c ∷ cs))
    else (if c == 95 then under_at place (c ∷ cs)
    else (if is_digit c then number_at place (c ∷ cs)
    else (if c == 34 then text_at place cs
    else symbol_at place c cs (c ∷ cs))))

abbrev pub with_kind : Result (Kind × List ℕ) LexFault → Read
with_kind (Ok (kind, rest)) = Ok (Some kind, rest)
with_kind (Err fault) = Err fault

-- the blank or the comment that stands there, if one does
abbrev pub or_comment : Option (List ℕ) → Read → Read
or_comment None other = other
or_comment (Some inside) other = Ok (None, behind is_in_comment inside)

unfoldable pub piece_at : ℕ → List ℕ → Read
piece_at place [] = Err (faults.BadChar place)
piece_at place (c ∷ cs) =
    if is_blank c then Ok (None, cs)
    else or_comment (strip (codes "//") (c ∷ cs)) (with_kind (token_at place (c ∷ cs)))

-- the tokens, and after them that of the kind, if there is one
abbrev pub with_token_of : List Token → Option Kind → ℕ → ℕ → List Token
with_token_of ts None start end = ts
with_token_of ts (Some kind) start end = ts ++ record { kind = kind; start = start; end = end } ∷ []

-- Reads on after a piece of a text of which cs is left. next reads from a place.
abbrev pub with_token : Token → Result (List Token) LexFault → Result (List Token) LexFault
with_token token (Ok tokens) = Ok (token ∷ tokens)
with_token token (Err fault) = Err fault

abbrev pub go_on : (ℕ → List ℕ → Result (List Token) LexFault) → ℕ → List ℕ → Read → Result (List Token) LexFault
go_on next place cs (Err fault) = Err fault
go_on next place cs (Ok (None, rest)) = next (place + (byte_len cs - byte_len rest)) rest
go_on next place cs (Ok (Some kind, rest)) =
    let end = place + (byte_len cs - byte_len rest)
    in with_token (record { kind = kind; start = place; end = end }) (next end rest)

-- The tokens from a place on. The first number is at least how many pieces there are.
unfoldable pub scan : ℕ → ℕ → List ℕ → Result (List Token) LexFault
scan zero place cs = Ok []
scan (suc n) place [] = Ok []
scan (suc n) place (c ∷ cs) = go_on (scan n) place (c ∷ cs) (piece_at place (c ∷ cs))

-- the tokens of a text, or its first fault
unfoldable pub tokens : List ℕ → Result (List Token) LexFault
tokens text = scan (length (chars text)) 0 (chars text)
