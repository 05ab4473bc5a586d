-- Tokens that are written with a blank behind each are read back.
use Rattle.std.proofs.Common.{◌≡◌, inl, ℕ, ◌+◌, ◌-◌, ◌<◌, true, List, [], ◌∷◌, ◌++◌, length, take, drop, refl, sym, ap, ◌∙◌, subst, arith, lit<, append_assoc, length-append}
use Rattle.std.specs.Prelude.{Some, None, slice_range}
use Rattle.std.specs.List.{AllByRecursion, AllZip, list_all}
use Rattle.std.specs.Str.{chars, IsUtf8}
use Rattle.std.proofs.Math.Seq.{take-append_seam, drop-append_seam}
use Rattle.std.proofs.lemmas.Str.{IsUtf8-append, IsUtf8-nil, encode_ascii, chars-nil, chars-append, chars_past_char}
use lib.Utf8.{scalars}
use Rattle.og_lex.specs.declared.token.Token.{Token}
use Rattle.og_lex.specs.Characters.{is_blank, is_ascii_char, byte_len}
use Rattle.og_lex.specs.Spelling.{AreTokens, Piece, characters_of, AllStand, tokens_of}
use Rattle.og_lex.specs.Written.{Written, IsWritten, text_of, placed}
use Rattle.og_lex.proofs.BlankBehind.{token_stands}
use Rattle.og_lex.proofs.ByteLen.{byte_len-chars}
use Rattle.og_lex.proofs.FirstCharacter.{blank_each}
use Rattle.og_lex.proofs.Strip.{ascii_encodes}

-- a blank is one byte
blank_small : (c : ℕ) → is_blank c ≡ true → c < 128
blank_small c b = blank_each (λ x. x < 128) c b (lit< tt) (lit< tt) (lit< tt) (lit< tt)

blank_ascii : (c : ℕ) → is_blank c ≡ true → list_all is_ascii_char (c ∷ []) ≡ true
blank_ascii c b = blank_each (λ x. list_all is_ascii_char (x ∷ []) ≡ true) c b refl refl refl refl

blank_utf8 : (c : ℕ) → is_blank c ≡ true → IsUtf8 (c ∷ [])
blank_utf8 c b = (c ∷ [], (blank_each (λ x. scalars (x ∷ []) ≡ true) c b refl refl refl refl, ascii_encodes (c ∷ []) (blank_ascii c b)))

blank_length : (c : ℕ) → is_blank c ≡ true → byte_len (c ∷ []) ≡ 1
unfolding byte_len
blank_length c b = ap length (ascii_encodes (c ∷ []) (blank_ascii c b))

-- the text is UTF-8
pub text_utf8 : (ws : List Written) → AllByRecursion IsWritten ws → IsUtf8 (text_of ws)
text_utf8 [] a = IsUtf8-nil
text_utf8 (w ∷ ws) a =
    IsUtf8-append w.bytes (w.blank ∷ text_of ws) a.0.utf8 (IsUtf8-append (w.blank ∷ []) (text_of ws) (blank_utf8 w.blank a.0.is_blank) (text_utf8 ws a.1))

-- each token is a piece, and so is the blank behind it
pieces_of : List Written → List Piece
pieces_of [] = []
pieces_of (w ∷ ws) =
    record { what = Some w.kind; front = chars w.bytes } ∷ (record { what = None; front = w.blank ∷ [] } ∷ pieces_of ws)

whole : (ws : List Written) → AllByRecursion IsWritten ws → chars (text_of ws) ≡ characters_of (pieces_of ws)
unfolding pieces_of
whole [] a = chars-nil
whole (w ∷ ws) a =
    let rest : IsUtf8 (w.blank ∷ text_of ws) = IsUtf8-append (w.blank ∷ []) (text_of ws) (blank_utf8 w.blank a.0.is_blank) (text_utf8 ws a.1) in
    let one = ap (λ l. l ++ text_of ws) (sym (encode_ascii w.blank (blank_small w.blank a.0.is_blank))) in
    chars-append w.bytes (w.blank ∷ text_of ws) a.0.utf8
    ∙ ap (λ l. chars w.bytes ++ l) (chars_past_char (w.blank ∷ text_of ws) (text_of ws) w.blank rest one ∙ ap (λ l. w.blank ∷ l) (whole ws a.1))

each : (ws : List Written) → AllByRecursion IsWritten ws → AllStand (pieces_of ws) []
unfolding pieces_of
each [] a = tt
each (w ∷ ws) a = (
  token_stands w.kind (chars w.bytes) (characters_of (pieces_of ws) ++ []) w.blank a.0.is_blank a.0.spelled,
  (inl (w.blank, refl, a.0.is_blank), each ws a.1),
)

places : (place : ℕ) (ws : List Written) → AllByRecursion IsWritten ws → placed place ws ≡ tokens_of place (pieces_of ws)
unfolding pieces_of
places place [] a = refl
places place (w ∷ ws) a =
    let end : place + length w.bytes ≡ place + byte_len (chars w.bytes) = omega (arith, byte_len-chars w.bytes a.0.utf8) in
    let next : place + length w.bytes + 1 ≡ place + byte_len (chars w.bytes) + byte_len (w.blank ∷ []) = omega (arith, end, blank_length w.blank a.0.is_blank) in
    let this : ℕ → Token = λ n. record { kind = w.kind; start = place; end = n } in
    ap (λ n. this n ∷ placed (place + length w.bytes + 1) ws) end
    ∙ ap (λ ts. this (place + byte_len (chars w.bytes)) ∷ ts) (ap (λ n. placed n ws) next ∙ places (place + byte_len (chars w.bytes) + byte_len (w.blank ∷ [])) ws a.1)

pub read_back : (ws : List Written) → AllByRecursion IsWritten ws → AreTokens (text_of ws) (placed 0 ws)
read_back ws a = record { pieces = pieces_of ws; whole = whole ws a; each = each ws a; tokens = places 0 ws a }

-- the bytes between the places of each token, where the text has others before them
between : (ws : List Written) (text before : List ℕ) → text ≡ before ++ text_of ws → AllZip (λ (w : Written) (t : Token). slice_range text t.start t.end ≡ w.bytes) ws (placed (length before) ws)
between [] text before e = tt
between (w ∷ ws) text before e =
    let rest : List ℕ = w.blank ∷ text_of ws in
    let next : List ℕ = before ++ (w.bytes ++ w.blank ∷ []) in
    let split : text ≡ next ++ text_of ws =
    e ∙ ap (λ l. before ++ l) (sym (append_assoc w.bytes (w.blank ∷ []) (text_of ws))) ∙ sym (append_assoc before (w.bytes ++ w.blank ∷ []) (text_of ws)) in
    let place : length next ≡ length before + length w.bytes + 1 = omega (arith, length-append before (w.bytes ++ w.blank ∷ []), length-append w.bytes (w.blank ∷ [])) in
    let width : length before + length w.bytes - length before ≡ length w.bytes = omega arith in
    let from : drop (length before) text ≡ w.bytes ++ rest = ap (drop (length before)) e ∙ drop-append_seam before (w.bytes ++ rest) in
    let here : slice_range text (length before) (length before + length w.bytes) ≡ w.bytes =
    ap (λ n. take n (drop (length before) text)) width ∙ ap (take (length w.bytes)) from ∙ take-append_seam w.bytes rest in
    (here, subst (λ n. AllZip (λ (v : Written) (t : Token). slice_range text t.start t.end ≡ v.bytes) ws (placed n ws)) place (between ws text next split))

pub bytes_back : (ws : List Written) → AllZip (λ (w : Written) (t : Token). slice_range (text_of ws) t.start t.end ≡ w.bytes) ws (placed 0 ws)
bytes_back ws = between ws (text_of ws) [] refl
