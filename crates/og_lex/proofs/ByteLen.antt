-- How many bytes characters take.
use Rattle.std.proofs.Common.{◌≡◌, ◌≢◌, ℕ, ◌+◌, ◌<◌, ◌≤◌, List, [], ◌∷◌, ◌++◌, length, refl, ap, ◌∙◌, arith, length-append}
use Rattle.std.specs.Prelude.{encode_utf8_all}
use Rattle.std.specs.Str.{chars, IsUtf8}
use Rattle.std.proofs.lemmas.Str.{encodes-chars, encodes-append, length-le-encodes}
use Rattle.og_lex.specs.Characters.{byte_len}

-- the bytes of a text are those of its characters
pub byte_len-chars : (text : List ℕ) → IsUtf8 text → byte_len (chars text) ≡ length text
unfolding byte_len
byte_len-chars text u = ap length (encodes-chars text u)

pub byte_len-append : (xs ys : List ℕ) → byte_len (xs ++ ys) ≡ byte_len xs + byte_len ys
unfolding byte_len
byte_len-append xs ys = ap length (encodes-append xs ys) ∙ length-append (encode_utf8_all xs) (encode_utf8_all ys)

pub length-le-byte_len : (xs : List ℕ) → length xs ≤ byte_len xs
unfolding byte_len
length-le-byte_len xs = length-le-encodes xs

pub byte_len-nil : byte_len [] ≡ 0
unfolding byte_len
byte_len-nil = refl

-- a list that is not empty has an element
pub some_length : (xs : List ℕ) → xs ≢ [] → 0 < length xs
some_length [] some = absurd (some refl)
some_length (x ∷ xs) some = omega arith
