-- The reading of a text gives its tokens or its first fault.
use Rattle.std.proofs.Common.{◌≡◌, ◌≢◌, ◌⊎◌, inl, inr, ℕ, zero, suc, ◌+◌, ◌-◌, ◌≤◌, Bool, true, false, cond, List, [], ◌∷◌, ◌++◌, length, refl, sym, ap, ◌∙◌, subst, arith, append_assoc, length-append}
use Rattle.std.specs.Prelude.{Option, Some, None, Result, Ok, Err, MatchResult, ◌==◌}
use Rattle.std.specs.Str.{chars}
use Rattle.std.proofs.lemmas.List.{append-nil}
use Rattle.og_lex.specs.declared.token.Kind.{Kind}
use Rattle.og_lex.specs.declared.token.Token.{Token}
use Rattle.og_lex.specs.declared.fault.LexFault.{LexFault}
use Rattle.og_lex.specs.declared.fault.LexFault.TheVariants as faults
use Rattle.og_lex.specs.Characters.{is_digit, byte_len}
use Rattle.og_lex.specs.LeftToRight.{Read, piece_at, with_token, go_on, scan, tokens}
use Rattle.og_lex.specs.Spelling.{Stands, Piece, characters_of, AllStand, with_piece, tokens_of, FaultAt, IsFirstFault, Lexed}
use Rattle.og_lex.proofs.ByteLen.{byte_len-append, byte_len-nil, some_length}
use Rattle.og_lex.proofs.PieceAt.{Shows, piece_shown}

pub record HasTokens (place : ℕ) (cs : List ℕ) (ts : List Token) : Type 0 where
  pub pieces : List Piece
  pub whole : cs ≡ characters_of pieces
  pub each : AllStand pieces []
  pub same : ts ≡ tokens_of place pieces

pub record HasFault (place : ℕ) (cs : List ℕ) (fault : LexFault) : Type 0 where
  pub pieces : List Piece
  pub rest : List ℕ
  pub whole : cs ≡ characters_of pieces ++ rest
  pub each : AllStand pieces rest
  pub cause : FaultAt (place + byte_len (characters_of pieces)) rest fault

-- what a reading of the characters from a place on tells of them
abbrev pub Has : ℕ → List ℕ → Result (List Token) LexFault → Type 0
Has place cs (Ok ts) = HasTokens place cs ts
Has place cs (Err fault) = HasFault place cs fault

tokens_kept : (what : Option Kind) (front rest : List ℕ) (place : ℕ) (ts : List Token) → Stands what front rest → HasTokens (place + byte_len front) rest ts → HasTokens place (front ++ rest) (with_piece what place (place + byte_len front) ts)
tokens_kept what front rest place ts s h = record {
  pieces = record { what = what; front = front } ∷ h.pieces;
  whole = ap (λ l. front ++ l) h.whole;
  each = (subst (Stands what front) (h.whole ∙ sym (append-nil (characters_of h.pieces))) s, h.each);
  same = ap (with_piece what place (place + byte_len front)) h.same;
}

fault_kept : (what : Option Kind) (front rest : List ℕ) (place : ℕ) (fault : LexFault) → Stands what front rest → HasFault (place + byte_len front) rest fault → HasFault place (front ++ rest) fault
fault_kept what front rest place fault s h = record {
  pieces = record { what = what; front = front } ∷ h.pieces;
  rest = h.rest;
  whole = ap (λ l. front ++ l) h.whole ∙ sym (append_assoc front (characters_of h.pieces) h.rest);
  each = (subst (Stands what front) h.whole s, h.each);
  cause =
      let at : place + byte_len front + byte_len (characters_of h.pieces) ≡ place + byte_len (front ++ characters_of h.pieces) = omega (arith, byte_len-append front (characters_of h.pieces)) in
      subst (λ p. FaultAt p h.rest fault) at h.cause;
}

-- the place after a front
place_after : (place : ℕ) (cs front rest : List ℕ) → cs ≡ front ++ rest → place + (byte_len cs - byte_len rest) ≡ place + byte_len front
place_after place cs front rest e = omega (arith, ap byte_len e, byte_len-append front rest)

gap_kept : (place : ℕ) (front rest : List ℕ) (r : Result (List Token) LexFault) → Stands None front rest → Has (place + byte_len front) rest r → Has place (front ++ rest) r
gap_kept place front rest (Ok ts) s h = tokens_kept None front rest place ts s h
gap_kept place front rest (Err fault) s h = fault_kept None front rest place fault s h

token_kept : (kind : Kind) (place : ℕ) (front rest : List ℕ) (r : Result (List Token) LexFault) → Stands (Some kind) front rest → Has (place + byte_len front) rest r
    → Has place (front ++ rest) (with_token (record { kind = kind; start = place; end = place + byte_len front }) r)
token_kept kind place front rest (Ok ts) s h = tokens_kept (Some kind) front rest place ts s h
token_kept kind place front rest (Err fault) s h = fault_kept (Some kind) front rest place fault s h

gone : (next : ℕ → List ℕ → Result (List Token) LexFault) (n place : ℕ) (cs : List ℕ) → length cs ≤ suc n → ((m : ℕ) (rest : List ℕ) → length rest ≤ n → Has m rest (next m rest))
    → (r : Read) → Shows place cs r → Has place cs (go_on next place cs r)
gone next n place cs h more (Err fault) f = record { pieces = []; rest = cs; whole = refl; each = tt; cause = subst (λ p. FaultAt p cs fault) (omega (arith, byte_len-nil)) f }
gone next n place cs h more (Ok (None, rest)) f =
    let end = place_after place cs f.front rest f.whole in
    let short : length rest ≤ n = omega (arith, ap length f.whole, length-append f.front rest, some_length f.front f.some) in
    let here : Has (place + byte_len f.front) rest (next (place + byte_len f.front) rest) = more (place + byte_len f.front) rest short in
    let kept = gap_kept place f.front rest (next (place + byte_len f.front) rest) f.stands here in
    let At : List ℕ → Type 0 = λ l. Has place l (next (place + byte_len f.front) rest) in
    subst (λ p. Has place cs (next p rest)) (sym end) (subst At (sym f.whole) kept)
gone next n place cs h more (Ok (Some kind, rest)) f =
    let end = place_after place cs f.front rest f.whole in
    let short : length rest ≤ n = omega (arith, ap length f.whole, length-append f.front rest, some_length f.front f.some) in
    let here : Has (place + byte_len f.front) rest (next (place + byte_len f.front) rest) = more (place + byte_len f.front) rest short in
    let kept = token_kept kind place f.front rest (next (place + byte_len f.front) rest) f.stands here in
    let At : List ℕ → Type 0 = λ l. Has place l (with_token (record { kind = kind; start = place; end = place + byte_len f.front }) (next (place + byte_len f.front) rest)) in
    subst (λ p. Has place cs (with_token (record { kind = kind; start = place; end = p }) (next p rest))) (sym end) (subst At (sym f.whole) kept)

scan-has : (n place : ℕ) (cs : List ℕ) → length cs ≤ n → Has place cs (scan n place cs)
unfolding scan
scan-has zero place [] h = record { pieces = []; whole = refl; each = tt; same = refl }
scan-has zero place (c ∷ cs) h = absurd (omega arith)
scan-has (suc n) place [] h = record { pieces = []; whole = refl; each = tt; same = refl }
scan-has (suc n) place (c ∷ cs) h = gone (scan n) n place (c ∷ cs) h (λ m rest short. scan-has n m rest short) (piece_at place (c ∷ cs)) (piece_shown place c cs)

pub tokens-has : (text : List ℕ) → Has 0 (chars text) (tokens text)
unfolding tokens
tokens-has text = scan-has (length (chars text)) 0 (chars text) (omega arith)

fault_lexed : (text : List ℕ) (fault : LexFault) → HasFault 0 (chars text) fault → IsFirstFault text fault
fault_lexed text fault h = record {
  pieces = h.pieces;
  rest = h.rest;
  whole = h.whole;
  each = h.each;
  cause = subst (λ p. FaultAt p h.rest fault) (omega arith) h.cause;
}

pub lexed_from : (text : List ℕ) (r : Result (List Token) LexFault) → Has 0 (chars text) r → Lexed text r
lexed_from text (Ok ts) h = record { pieces = h.pieces; whole = h.whole; each = h.each; tokens = h.same }
lexed_from text (Err faults.Memory) h = tt
lexed_from text (Err (faults.BadChar p)) h = fault_lexed text (faults.BadChar p) h
lexed_from text (Err (faults.OpenText p)) h = fault_lexed text (faults.OpenText p) h
lexed_from text (Err (faults.WideNumber p)) h = fault_lexed text (faults.WideNumber p) h

pub tokens-lexed : (text : List ℕ) → Lexed text (tokens text)
tokens-lexed text = lexed_from text (tokens text) (tokens-has text)

-- no character is at fault for want of memory
cause_some : (digits quotes : Bool) (place : ℕ) → cond digits (faults.WideNumber place) (cond quotes (faults.OpenText place) (faults.BadChar place)) ≢ faults.Memory
cause_some true quotes place e = cc
cause_some false true place e = cc
cause_some false false place e = cc

fault_some : (place : ℕ) (rest : List ℕ) → FaultAt place rest faults.Memory → ⊥
fault_some place [] f = f
fault_some place (c ∷ cs) f = cause_some (is_digit c) (c == 34) place (sym f.1)

pub tokens-some : (text : List ℕ) → tokens text ≢ Err faults.Memory
tokens-some text e =
    let h = subst (Has 0 (chars text)) e (tokens-has text) in
    fault_some (0 + byte_len (characters_of h.pieces)) h.rest h.cause

-- what the loop tells, as the public call says it
pub exact_from : (text : List ℕ) (r : Result (List Token) LexFault) → MatchResult r (λ ts. tokens text ≡ Ok ts) (λ fault. fault ≢ faults.Memory → tokens text ≡ Err fault) → (r ≡ Err faults.Memory) ⊎ (r ≡ tokens text)
exact_from text (Ok ts) h = inr (sym h)
exact_from text (Err faults.Memory) h = inl refl
exact_from text (Err (faults.BadChar p)) h = inr (sym (h (λ e. cc)))
exact_from text (Err (faults.OpenText p)) h = inr (sym (h (λ e. cc)))
exact_from text (Err (faults.WideNumber p)) h = inr (sym (h (λ e. cc)))

pub lexed_exact : (text : List ℕ) (r : Result (List Token) LexFault) → (r ≡ Err faults.Memory) ⊎ (r ≡ tokens text) → Lexed text r
lexed_exact text r (inl e) = subst (Lexed text) (sym e) tt
lexed_exact text r (inr e) = subst (Lexed text) (sym e) (tokens-lexed text)
