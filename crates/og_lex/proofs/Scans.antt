-- A loop over the pieces of a text, against the reading of its characters.
use Rattle.std.proofs.Common.{◌≡◌, ◌≢◌, ℕ, zero, suc, ◌+◌, ◌-◌, ◌<◌, ◌≤◌, List, [], ◌∷◌, ◌++◌, length, refl, sym, ap, ◌∙◌, arith, append_assoc, length-append}
use Rattle.std.specs.Prelude.{Option, Some, None, Result, Ok, Err, encode_utf8_all}
use Rattle.std.specs.Str.{chars, IsUtf8}
use Rattle.std.proofs.lemmas.List.{append-nil}
use Rattle.std.proofs.lemmas.Str.{chars-nil, encodes-chars}
use Rattle.og_lex.specs.declared.token.Kind.{Kind}
use Rattle.og_lex.specs.declared.token.Token.{Token}
use Rattle.og_lex.specs.declared.fault.LexFault.{LexFault}
use Rattle.og_lex.specs.Characters.{byte_len}
use Rattle.og_lex.specs.LeftToRight.{piece_at, with_token, go_on, scan, tokens, with_token_of}
use Rattle.og_lex.proofs.ByteLen.{byte_len-chars, byte_len-append, length-le-byte_len, some_length}
use Rattle.og_lex.proofs.PieceAt.{piece_found}

-- what was read before, and what is read after it
abbrev pub with_tokens : List Token → Result (List Token) LexFault → Result (List Token) LexFault
with_tokens ts (Ok more) = Ok (ts ++ more)
with_tokens ts (Err fault) = Err fault

-- ts are the tokens before the rest, which begins at place
pub record IsRead (text : List ℕ) (ts : List Token) (place : ℕ) (rest : List ℕ) : Type 0 where
  pub room : ℕ
  pub enough : length (chars rest) ≤ room
  pub whole : tokens text ≡ with_tokens ts (scan room place (chars rest))
  pub at : place + length rest ≡ length text

with_tokens-nil : (r : Result (List Token) LexFault) → r ≡ with_tokens [] r
with_tokens-nil (Ok ts) = refl
with_tokens-nil (Err fault) = refl

with_tokens-with_token : (ts : List Token) (t : Token) (r : Result (List Token) LexFault) → with_tokens ts (with_token t r) ≡ with_tokens (ts ++ t ∷ []) r
with_tokens-with_token ts t (Ok more) = ap Ok (sym (append_assoc ts (t ∷ []) more))
with_tokens-with_token ts t (Err fault) = refl

pub read_start : (text : List ℕ) → IsRead text [] 0 text
unfolding tokens
read_start text = record {
  room = length (chars text);
  enough = omega arith;
  whole = with_tokens-nil (scan (length (chars text)) 0 (chars text));
  at = omega arith;
}

scan_empty : (room place : ℕ) → scan room place [] ≡ Ok []
unfolding scan
scan_empty zero place = refl
scan_empty (suc n) place = refl

pub read_end : (text : List ℕ) (ts : List Token) (place : ℕ) (rest : List ℕ) → IsRead text ts place rest → rest ≡ [] → tokens text ≡ Ok ts
read_end text ts place rest h e =
    h.whole ∙ ap (λ cs. with_tokens ts (scan h.room place cs)) (ap chars e ∙ chars-nil) ∙ ap (with_tokens ts) (scan_empty h.room place) ∙ ap Ok (append-nil ts)

-- one piece more
scan_step : (room place : ℕ) (cs : List ℕ) → cs ≢ [] → length cs ≤ room → (n : ℕ) × (room ≡ suc n) × (scan room place cs ≡ go_on (scan n) place cs (piece_at place cs))
unfolding scan
scan_step room place [] some h = absurd (some refl)
scan_step zero place (c ∷ cs) some h = absurd (omega arith)
scan_step (suc n) place (c ∷ cs) some h = (n, refl, refl)

some_chars : (text : List ℕ) → IsUtf8 text → text ≢ [] → chars text ≢ []
some_chars text u some e = some (sym (encodes-chars text u) ∙ ap encode_utf8_all e)

pub read_fail : (text : List ℕ) (ts : List Token) (place : ℕ) (rest : List ℕ) (fault : LexFault) → IsRead text ts place rest → IsUtf8 rest → rest ≢ [] → piece_at place (chars rest) ≡ Err fault → tokens text ≡ Err fault
read_fail text ts place rest fault h u some e =
    let s = scan_step h.room place (chars rest) (some_chars rest u some) h.enough in
    h.whole ∙ ap (with_tokens ts) (s.2 ∙ ap (go_on (scan s.0) place (chars rest)) e)

-- the characters that follow a piece are fewer, and so are their bytes
pub read_less : (place : ℕ) (rest after : List ℕ) (what : Option Kind) → IsUtf8 rest → IsUtf8 after → piece_at place (chars rest) ≡ Ok (what, chars after) → (length after < length rest) × (length (chars after) < length (chars rest))
read_less place rest after what u v e =
    let found = piece_found place (chars rest) (chars after) what e in
    let n = some_length found.front found.some in
    let b = length-le-byte_len found.front in
    let w = ap byte_len found.whole ∙ byte_len-append found.front (chars after) in
    let m = ap length found.whole ∙ length-append found.front (chars after) in
    (omega (arith, byte_len-chars rest u, byte_len-chars after v), omega arith)

-- a piece more
pub read_step : (text : List ℕ) (ts : List Token) (place : ℕ) (rest after : List ℕ) (what : Option Kind) → IsRead text ts place rest → IsUtf8 rest → IsUtf8 after → rest ≢ [] → piece_at place (chars rest) ≡ Ok (what, chars after)
    → IsRead text (with_token_of ts what place (place + (length rest - length after))) (place + (length rest - length after)) after
read_step text ts place rest after None h u v some e =
    let s = scan_step h.room place (chars rest) (some_chars rest u some) h.enough in
    let less = read_less place rest after None u v e in
    let end : place + (byte_len (chars rest) - byte_len (chars after)) ≡ place + (length rest - length after) = omega (arith, byte_len-chars rest u, byte_len-chars after v) in
    record {
      room = s.0;
      enough = omega (arith, s.1, h.enough);
      whole = h.whole ∙ ap (with_tokens ts) (s.2 ∙ ap (go_on (scan s.0) place (chars rest)) e ∙ ap (λ m. scan s.0 m (chars after)) end);
      at = omega (arith, h.at);
    }
read_step text ts place rest after (Some kind) h u v some e =
    let s = scan_step h.room place (chars rest) (some_chars rest u some) h.enough in
    let less = read_less place rest after (Some kind) u v e in
    let end : place + (byte_len (chars rest) - byte_len (chars after)) ≡ place + (length rest - length after) = omega (arith, byte_len-chars rest u, byte_len-chars after v) in
    let more : ℕ → Result (List Token) LexFault = λ m. with_token (record { kind = kind; start = place; end = m }) (scan s.0 m (chars after)) in
    record {
      room = s.0;
      enough = omega (arith, s.1, h.enough);
      whole = h.whole ∙ ap (with_tokens ts) (s.2 ∙ ap (go_on (scan s.0) place (chars rest)) e ∙ ap more end) ∙ with_tokens-with_token ts (record { kind = kind; start = place; end = place + (length rest - length after) }) (scan s.0 (place + (length rest - length after)) (chars after));
      at = omega (arith, h.at);
    }

pub some_from_length : (xs : List ℕ) → 0 < length xs → xs ≢ []
some_from_length [] h e = absurd (omega arith)
some_from_length (x ∷ xs) h e = cc
