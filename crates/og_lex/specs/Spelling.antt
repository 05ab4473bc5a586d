-- What the tokens of a text are, whatever reads them.
use Rattle.std.specs.Prelude.{◌≡◌, ◌≢◌, ◌⊎◌, ℕ, ◌+◌, ◌^◌, ◌<◌, ◌≤◌, Bool, true, false, ◌==◌, ◌&&◌, if◌then◌else◌, List, [], ◌∷◌, ◌++◌, length, codes, Option, Some, None, Result, Ok, Err, slice_range}
use Rattle.std.specs.List.{list_all}
use Rattle.std.specs.Str.{chars, IsCharBoundary, IsUtf8}
use Rattle.std.specs.Str.Parse.{digits_value}
use Rattle.unicode_ident.specs.Ident.{is_xid_start, is_xid_continue}
use Rattle.og_lex.specs.declared.token.Kind.{Kind}
use Rattle.og_lex.specs.declared.token.Kind.TheVariants as kinds
use Rattle.og_lex.specs.declared.token.Word.{Word}
use Rattle.og_lex.specs.declared.token.Token.{Token}
use Rattle.og_lex.specs.declared.fault.LexFault.{LexFault}
use Rattle.og_lex.specs.declared.fault.LexFault.TheVariants as faults
use Rattle.og_lex.specs.Characters.{is_blank, is_digit, is_hyphen, is_in_text, is_in_comment, byte_len}
use Rattle.og_lex.specs.Tables.{word_text, mark_text}

-- a character that may begin a name, and then any that may go on one
abbrev pub is_name : List ℕ → Bool
is_name [] = false
is_name (c ∷ cs) = is_xid_start c && list_all is_xid_continue cs

-- These characters write a token of the kind.
abbrev pub Spells : Kind → List ℕ → Type 0
Spells kinds.Name front = (is_name front ≡ true) × ((w : Word) → front ≢ word_text w)
Spells kinds.Under front =
    (more : List ℕ) × (front ≡ 95 ∷ more) × (more ≢ []) × (list_all is_xid_continue more ≡ true)
Spells (kinds.Number n) front =
    (front ≢ []) × (list_all is_digit front ≡ true) × (digits_value 10 front ≡ n) × (n < 2 ^ 63)
Spells kinds.Text front =
    (inside : List ℕ) × (front ≡ 34 ∷ inside ++ 34 ∷ []) × (list_all is_in_text inside ≡ true)
Spells (kinds.Word w) front = front ≡ word_text w
Spells (kinds.Mark m) front = front ≡ mark_text m
Spells kinds.Separator front =
    (hyphens : List ℕ) × (front ≡ 58 ∷ hyphens ++ 58 ∷ []) × (list_all is_hyphen hyphens ≡ true)
    × (3 ≤ length hyphens)

-- The characters are at their end, or the first of them does not pass.
abbrev pub Stops : (ℕ → Bool) → List ℕ → Type 0
Stops p [] = Unit {0}
Stops p (c ∷ cs) = p c ≡ false

-- A run of digits counts as a whole: no number ends where a digit follows.
abbrev pub MayEnd : Kind → List ℕ → Type 0
MayEnd (kinds.Number n) rest = Stops is_digit rest
MayEnd kinds.Name rest = Unit {0}
MayEnd kinds.Under rest = Unit {0}
MayEnd kinds.Text rest = Unit {0}
MayEnd (kinds.Word w) rest = Unit {0}
MayEnd (kinds.Mark m) rest = Unit {0}
MayEnd kinds.Separator rest = Unit {0}

-- A token of the kind is written by front, where rest follows.
pub record Begins (kind : Kind) (front rest : List ℕ) : Type 0 where
  pub spelled : Spells kind front
  pub may_end : MayEnd kind rest

-- The token that is taken where front and then rest stand: no token that begins there is longer.
pub record IsTokenAt (kind : Kind) (front rest : List ℕ) : Type 0 where
  pub begins : Begins kind front rest
  pub longest : (other : Kind) (longer after : List ℕ) → longer ++ after ≡ front ++ rest
      → Begins other longer after → length longer ≤ length front

abbrev pub IsBlank : List ℕ → Type 0
IsBlank front = (c : ℕ) × (front ≡ c ∷ []) × (is_blank c ≡ true)

-- Two slashes and all that stands before the next line feed, or before the end.
abbrev pub IsComment : List ℕ → List ℕ → Type 0
IsComment front rest =
    (inside : List ℕ) × (front ≡ codes "//" ++ inside) × (list_all is_in_comment inside ≡ true)
    × Stops is_in_comment rest

-- What stands where front and then rest stand: a token of the kind, or without a kind a blank or a
-- comment. No token begins where a comment does.
abbrev pub Stands : Option Kind → List ℕ → List ℕ → Type 0
Stands None front rest = IsBlank front ⊎ IsComment front rest
Stands (Some kind) front rest = IsTokenAt kind front rest × ((after : List ℕ) → front ++ rest ≢ codes "//" ++ after)

-- A blank, a comment or a token of a text, with its characters.
pub record Piece : Type 0 where
  pub what : Option Kind
  pub front : List ℕ

-- the characters of the pieces in a row
abbrev pub characters_of : List Piece → List ℕ
characters_of [] = []
characters_of (p ∷ ps) = p.front ++ characters_of ps

-- Each of the pieces stands at its place, where rest follows them all.
abbrev pub AllStand : List Piece → List ℕ → Type 0
AllStand [] rest = Unit {0}
AllStand (p ∷ ps) rest = Stands p.what p.front (characters_of ps ++ rest) × AllStand ps rest

-- the tokens among the pieces, with the places of their bytes, where the first piece begins at place
abbrev pub with_piece : Option Kind → ℕ → ℕ → List Token → List Token
with_piece None start end ts = ts
with_piece (Some kind) start end ts = record { kind = kind; start = start; end = end } ∷ ts

abbrev pub tokens_of : ℕ → List Piece → List Token
tokens_of place [] = []
tokens_of place (p ∷ ps) = with_piece p.what place (place + byte_len p.front) (tokens_of (place + byte_len p.front) ps)

-- The text is a row of pieces, and these are its tokens.
pub record AreTokens (text : List ℕ) (ts : List Token) : Type 0 where
  pub pieces : List Piece
  pub whole : chars text ≡ characters_of pieces
  pub each : AllStand pieces []
  pub tokens : ts ≡ tokens_of 0 pieces

-- No token, blank or comment stands at the front of the characters.
abbrev pub NothingStands : List ℕ → Type 0
NothingStands cs = (what : Option Kind) (front rest : List ℕ) → front ++ rest ≡ cs → Stands what front rest → ⊥

-- why, by the character at the place: digits stand there whose value is too great, a double quote
-- stands there that nothing ends, or no token begins with the character
abbrev pub fault_of : ℕ → ℕ → LexFault
fault_of place c =
    if is_digit c then faults.WideNumber place
    else (if c == 34 then faults.OpenText place else faults.BadChar place)

-- Nothing stands at the front of the characters, which is at the place, and the fault says why.
abbrev pub FaultAt : ℕ → List ℕ → LexFault → Type 0
FaultAt place [] fault = ⊥
FaultAt place (c ∷ cs) fault = NothingStands (c ∷ cs) × (fault ≡ fault_of place c)

-- The text is a row of pieces up to a place at which nothing stands.
pub record IsFirstFault (text : List ℕ) (fault : LexFault) : Type 0 where
  pub pieces : List Piece
  pub rest : List ℕ
  pub whole : chars text ≡ characters_of pieces ++ rest
  pub each : AllStand pieces rest
  pub cause : FaultAt (byte_len (characters_of pieces)) rest fault

-- what a text has: its tokens, or its first fault. For want of memory it may go unread.
abbrev pub Lexed : List ℕ → Result (List Token) LexFault → Type 0
Lexed text (Ok ts) = AreTokens text ts
Lexed text (Err faults.Memory) = Unit {0}
Lexed text (Err (faults.BadChar place)) = IsFirstFault text (faults.BadChar place)
Lexed text (Err (faults.OpenText place)) = IsFirstFault text (faults.OpenText place)
Lexed text (Err (faults.WideNumber place)) = IsFirstFault text (faults.WideNumber place)

-- The tokens stand in order from place to end, each of a byte or more, none over another.
abbrev pub AreInOrder : ℕ → ℕ → List Token → Type 0
AreInOrder place end [] = place ≤ end
AreInOrder place end (t ∷ ts) = (place ≤ t.start) × (t.start < t.end) × AreInOrder t.end end ts

-- The token stands in the text, whose bytes between its places write its kind. The text may be cut
-- at both places.
pub record IsTokenOf (text : List ℕ) (t : Token) : Type 0 where
  pub some : t.start < t.end
  pub within : t.end ≤ length text
  pub begins : IsCharBoundary text t.start
  pub ends : IsCharBoundary text t.end
  pub utf8 : IsUtf8 (slice_range text t.start t.end)
  pub spelled : Spells t.kind (chars (slice_range text t.start t.end))
