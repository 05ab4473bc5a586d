-- The characters that matter to the tokens, and the runs that they make.
use Rattle.std.specs.Prelude.{ℕ, Bool, ◌==◌, ◌||◌, ◌&&◌, not, nat_le, nat_lt, cond, List, [], ◌∷◌, length, encode_utf8_all}
use Rattle.unicode_ident.specs.Ident.{is_xid_continue}
use Rattle.og_lex.specs.declared.class.Class.{Class}
use Rattle.og_lex.specs.declared.class.Class.TheVariants as classes

-- a character of one byte
abbrev pub is_ascii_char : ℕ → Bool
is_ascii_char c = nat_lt c 128

-- a space, a tab, a line feed or a carriage return
abbrev pub is_blank : ℕ → Bool
is_blank c = (c == 32) || (c == 9) || (c == 10) || (c == 13)

-- a decimal digit
abbrev pub is_digit : ℕ → Bool
is_digit c = nat_le 48 c && nat_le c 57

-- what may stand between two double quotes: no double quote and no control character
abbrev pub is_in_text : ℕ → Bool
is_in_text c = nat_le 32 c && not (c == 34) && not (c == 127)

-- all but the line feed
abbrev pub is_in_comment : ℕ → Bool
is_in_comment c = not (c == 10)

abbrev pub is_hyphen : ℕ → Bool
is_hyphen c = c == 45

-- whether a character is of the class
unfoldable pub has : Class → ℕ → Bool
has classes.NameRest c = is_xid_continue c
has classes.Digit c = is_digit c
has classes.Hyphen c = is_hyphen c
has classes.InText c = is_in_text c
has classes.InComment c = is_in_comment c

-- the longest front whose characters all pass, and what follows it
abbrev pub run : (ℕ → Bool) → List ℕ → List ℕ
run p [] = []
run p (c ∷ cs) = cond (p c) (c ∷ run p cs) []

abbrev pub behind : (ℕ → Bool) → List ℕ → List ℕ
behind p [] = []
behind p (c ∷ cs) = cond (p c) (behind p cs) (c ∷ cs)

-- how many bytes the characters take
unfoldable pub byte_len : List ℕ → ℕ
byte_len cs = length (encode_utf8_all cs)
