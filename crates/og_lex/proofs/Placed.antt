-- Where the tokens of a text stand in it.
use Rattle.std.proofs.Common.{◌≡◌, ℕ, ◌+◌, ◌-◌, ◌<◌, ◌≤◌, true, List, [], ◌∷◌, ◌++◌, length, take, drop, refl, sym, ap, ◌∙◌, subst, arith, append_assoc, length-append}
use Rattle.std.specs.Prelude.{Option, Some, None, Result, Ok, Err, IfOk, encode_utf8_all, slice_range, ◌&&◌}
use Rattle.std.specs.List.{All, AllByRecursion}
use Rattle.std.specs.Str.{chars, IsUtf8, IsCharBoundary}
use Rattle.std.proofs.Math.Seq.{take-append_seam, drop-append_seam}
use Rattle.std.proofs.lemmas.List.Elements.{All-from_recursion}
use Rattle.std.proofs.lemmas.Str.{encodes-chars, chars-encodes, scalars-chars, encodes-append, IsCharBoundary-at_seam}
use Rattle.std.proofs.lemmas.Bool.{and_parts}
use lib.Utf8.{scalar, scalars}
use Rattle.og_lex.specs.declared.token.Kind.{Kind}
use Rattle.og_lex.specs.declared.token.Token.{Token}
use Rattle.og_lex.specs.declared.fault.LexFault.{LexFault}
use Rattle.og_lex.specs.Characters.{byte_len}
use Rattle.og_lex.specs.Spelling.{Spells, Stands, Piece, characters_of, AllStand, with_piece, tokens_of, Lexed, AreInOrder, IsTokenOf}
use Rattle.og_lex.proofs.ByteLen.{byte_len-append, byte_len-nil, byte_len-chars, length-le-byte_len}
use Rattle.og_lex.proofs.OneLexing.{stands_some}

-- each piece takes a byte or more
bytes_some : (what : Option Kind) (front rest : List ℕ) → Stands what front rest → 0 < byte_len front
bytes_some what [] rest s = absurd (stands_some what [] rest s refl)
bytes_some what (c ∷ front) rest s = omega (arith, length-le-byte_len (c ∷ front))

earlier : (place from end : ℕ) (ts : List Token) → place ≤ from → AreInOrder from end ts → AreInOrder place end ts
earlier place from end [] l o = omega arith
earlier place from end (t ∷ ts) l o = (omega (arith, o.0), o.1, o.2)

one_in_order : (what : Option Kind) (place next end : ℕ) (ts : List Token) → place < next → AreInOrder next end ts → AreInOrder place end (with_piece what place next ts)
one_in_order None place next end ts l o = earlier place next end ts (omega arith) o
one_in_order (Some kind) place next end ts l o = (omega arith, l, o)

in_order : (ps : List Piece) (rest : List ℕ) (place end : ℕ) → AllStand ps rest → place + byte_len (characters_of ps) ≡ end → AreInOrder place end (tokens_of place ps)
in_order [] rest place end s e = omega arith
in_order (p ∷ ps) rest place end s e =
    one_in_order p.what place (place + byte_len p.front) end (tokens_of (place + byte_len p.front) ps)
    (omega (arith, bytes_some p.what p.front (characters_of ps ++ rest) s.0))
    (in_order ps rest (place + byte_len p.front) end s.1 (omega (arith, e, byte_len-append p.front (characters_of ps))))

scalars-parts : (xs ys : List ℕ) → scalars (xs ++ ys) ≡ true → (scalars xs ≡ true) × (scalars ys ≡ true)
scalars-parts [] ys e = (refl, e)
scalars-parts (x ∷ xs) ys e =
    let h = and_parts (scalar x) (scalars (xs ++ ys)) e in
    let more = scalars-parts xs ys h.1 in
    (ap (λ b. b && scalars xs) h.0 ∙ more.0, more.1)

-- a text in three parts, of which the middle one writes a kind
middle : (text before front after : List ℕ) (kind : Kind) → text ≡ encode_utf8_all (before ++ (front ++ after)) → scalars (before ++ (front ++ after)) ≡ true → 0 < byte_len front → Spells kind front
    → IsTokenOf text (record { kind = kind; start = byte_len before; end = byte_len before + byte_len front })
unfolding byte_len
middle text before front after kind e u some s =
    let b : List ℕ = encode_utf8_all before in
    let f : List ℕ = encode_utf8_all front in
    let a : List ℕ = encode_utf8_all after in
    let back : encode_utf8_all (front ++ after) ≡ f ++ a = encodes-append front after in
    let whole : text ≡ b ++ (f ++ a) = e ∙ encodes-append before (front ++ after) ∙ ap (λ l. b ++ l) back in
    let cut : text ≡ (b ++ f) ++ a = whole ∙ sym (append_assoc b f a) in
    let parts = scalars-parts before (front ++ after) u in
    let later = scalars-parts front after parts.1 in
    let here : length (b ++ f) ≡ length b + length f = length-append b f in
    let width : length b + length f - length b ≡ length f = omega arith in
    let from : drop (length b) text ≡ f ++ a = ap (drop (length b)) whole ∙ drop-append_seam b (f ++ a) in
    let slice : slice_range text (length b) (length b + length f) ≡ f = ap (λ n. take n (drop (length b) text)) width ∙ ap (take (length f)) from ∙ take-append_seam f a in
    record {
      some = omega arith;
      within = omega (arith, ap length cut, length-append (b ++ f) a);
      begins = IsCharBoundary-at_seam text b (f ++ a) whole (front ++ after, (parts.1, back));
      ends = subst (IsCharBoundary text) here (IsCharBoundary-at_seam text (b ++ f) a cut (after, (later.1, refl)));
      utf8 = (front, (later.0, sym slice));
      spelled = subst (Spells kind) (sym (ap chars slice ∙ chars-encodes front later.0)) s;
    }

one_written : (what : Option Kind) (text before front after : List ℕ) (ts : List Token) → text ≡ encode_utf8_all (before ++ (front ++ after)) → scalars (before ++ (front ++ after)) ≡ true → Stands what front (after ++ [])
    → AllByRecursion (IsTokenOf text) ts → AllByRecursion (IsTokenOf text) (with_piece what (byte_len before) (byte_len before + byte_len front) ts)
one_written None text before front after ts e u s more = more
one_written (Some kind) text before front after ts e u s more =
    (middle text before front after kind e u (bytes_some (Some kind) front (after ++ []) s) s.0.begins.spelled, more)

each_written : (ps : List Piece) (text before : List ℕ) → AllStand ps [] → text ≡ encode_utf8_all (before ++ characters_of ps) → scalars (before ++ characters_of ps) ≡ true → AllByRecursion (IsTokenOf text) (tokens_of (byte_len before) ps)
each_written [] text before s e u = tt
each_written (p ∷ ps) text before s e u =
    let next : List ℕ = before ++ p.front in
    let join : before ++ (p.front ++ characters_of ps) ≡ next ++ characters_of ps = sym (append_assoc before p.front (characters_of ps)) in
    let more : AllByRecursion (IsTokenOf text) (tokens_of (byte_len next) ps) = each_written ps text next s.1 (e ∙ ap encode_utf8_all join) (ap scalars (sym join) ∙ u) in
    let there : AllByRecursion (IsTokenOf text) (tokens_of (byte_len before + byte_len p.front) ps) =
    subst (λ n. AllByRecursion (IsTokenOf text) (tokens_of n ps)) (byte_len-append before p.front) more in
    one_written p.what text before p.front (characters_of ps) (tokens_of (byte_len before + byte_len p.front) ps) e u s.0 there

pub order_from : (text : List ℕ) (r : Result (List Token) LexFault) → IsUtf8 text → Lexed text r → IfOk r (AreInOrder 0 (length text))
order_from text (Err fault) u l = tt
order_from text (Ok ts) u l =
    let end : 0 + byte_len (characters_of l.pieces) ≡ length text = omega (arith, ap byte_len l.whole, byte_len-chars text u) in
    subst (AreInOrder 0 (length text)) (sym l.tokens) (in_order l.pieces [] 0 (length text) l.each end)

pub in_turn_from : (text : List ℕ) (r : Result (List Token) LexFault) → IsUtf8 text → Lexed text r → IfOk r (AllByRecursion (IsTokenOf text))
in_turn_from text (Err fault) u l = tt
in_turn_from text (Ok ts) u l =
    let all = each_written l.pieces text [] l.each (sym (encodes-chars text u) ∙ ap encode_utf8_all l.whole) (ap scalars (sym l.whole) ∙ scalars-chars text u) in
    subst (AllByRecursion (IsTokenOf text)) (sym l.tokens) (subst (λ n. AllByRecursion (IsTokenOf text) (tokens_of n l.pieces)) byte_len-nil all)

pub each_from : (text : List ℕ) (r : Result (List Token) LexFault) → IfOk r (AllByRecursion (IsTokenOf text)) → IfOk r (All (IsTokenOf text))
each_from text (Err fault) all = tt
each_from text (Ok ts) all = All-from_recursion (IsTokenOf text) ts all

-- tokens in order are no more than the bytes that they stand among
few : (place end : ℕ) (ts : List Token) → AreInOrder place end ts → place + length ts ≤ end
few place end [] o = omega (arith, o)
few place end (t ∷ ts) o = omega (arith, o.0, o.1, few t.end end ts o.2)

pub few_from : (end : ℕ) (r : Result (List Token) LexFault) → IfOk r (AreInOrder 0 end) → IfOk r (λ ts. length ts ≤ end)
few_from end (Err fault) o = tt
few_from end (Ok ts) o = omega (arith, few 0 end ts o)
