-- What follows a front, in a list of characters and in the bytes that they take.
use Rattle.std.proofs.Common.{◌≡◌, ◌≢◌, ◌⊎◌, inl, inr, ℕ, Bool, true, false, cond, List, [], ◌∷◌, ◌++◌, refl, sym, ap, ◌∙◌, subst}
use Rattle.std.specs.Prelude.{encode_utf8_all, Option, Some, None, MatchOption, ◌==◌}
use Rattle.std.specs.List.{list_all}
use Rattle.std.specs.Str.{chars, IsUtf8, IsCharBoundary}
use Rattle.std.specs.Str.Pattern.{FindsTextPrefix, StripsPrefix}
use Rattle.std.proofs.lemmas.Bool.{eqb-true, eq-eqb, ltb-true, and_parts}
use Rattle.std.proofs.lemmas.Str.{encodes-append, encodes-chars, cons_from_encodes, encode_ascii, chars_from_encodes, IsUtf8-drop}
use Rattle.og_lex.specs.Characters.{is_ascii_char}
use Rattle.og_lex.specs.LeftToRight.{strip}
use denote.Ref.{Bor}

-- which way a choice went
pub cond_parts : {A : Type 0} (b : Bool) (x y z : A) → cond b x y ≡ z → ((b ≡ true) × (x ≡ z)) ⊎ ((b ≡ false) × (y ≡ z))
cond_parts true x y z e = inl (refl, e)
cond_parts false x y z e = inr (refl, e)

pub strip-is : (front cs rest : List ℕ) → strip front cs ≡ Some rest → cs ≡ front ++ rest
strip-is [] cs rest e = cc
strip-is (x ∷ front) [] rest e = cc
strip-is (x ∷ front) (c ∷ cs) rest e =
    elim (cond_parts (x == c) (strip front cs) None (Some rest) e) [
      | inl h ↦ let at : x ≡ c = eqb-true x c h.0 in let more = strip-is front cs rest h.1 in cc
      | inr h ↦ cc
    ]

pub strip-append : (front rest : List ℕ) → strip front (front ++ rest) ≡ Some rest
strip-append [] rest = refl
strip-append (x ∷ front) rest = ap (λ b. cond b (strip front (front ++ rest)) None) (eq-eqb x x refl) ∙ strip-append front rest

-- ASCII characters are their own bytes
pub ascii_encodes : (front : List ℕ) → list_all is_ascii_char front ≡ true → encode_utf8_all front ≡ front
ascii_encodes [] e = refl
ascii_encodes (x ∷ front) e =
    let h = and_parts (is_ascii_char x) (list_all is_ascii_char front) e in
    ap (λ l. l ++ encode_utf8_all front) (encode_ascii x (ltb-true x 128 h.0)) ∙ ap (λ l. x ∷ l) (ascii_encodes front h.1)

-- what follows an ASCII front of the bytes of characters is bytes of characters
pub behind_ascii : (front cs bytes : List ℕ) → list_all is_ascii_char front ≡ true → encode_utf8_all cs ≡ front ++ bytes → (rest : List ℕ) × (cs ≡ front ++ rest) × (encode_utf8_all rest ≡ bytes)
behind_ascii [] cs bytes a e = (cs, refl, e)
behind_ascii (x ∷ front) cs bytes a e =
    let h = and_parts (is_ascii_char x) (list_all is_ascii_char front) a in
    let first = cons_from_encodes cs (front ++ bytes) x (e ∙ ap (λ l. l ++ (front ++ bytes)) (sym (encode_ascii x (ltb-true x 128 h.0)))) in
    let more = behind_ascii front first.0 bytes h.1 first.2 in
    (more.0, first.1 ∙ ap (λ l. x ∷ l) more.1, more.2)

-- what `strip_prefix` says of a text, said of its characters
abbrev IsStripped : List ℕ → List ℕ → Option (Bor (List ℕ)) → Type 0
IsStripped front text r = MatchOption r (strip front (chars text) ≡ None) (λ rest. strip front (chars text) ≡ Some (chars rest.now))

none_stripped : (front text : List ℕ) → list_all is_ascii_char front ≡ true → IsUtf8 text → ((rest : List ℕ) → text ≢ front ++ rest) → (o : Option (List ℕ)) → strip front (chars text) ≡ o → o ≡ None
none_stripped front text a u differs None e = refl
none_stripped front text a u differs (Some rest) e =
    absurd (differs (encode_utf8_all rest) (sym (encodes-chars text u) ∙ ap encode_utf8_all (strip-is front (chars text) rest e) ∙ encodes-append front rest ∙ ap (λ l. l ++ encode_utf8_all rest) (ascii_encodes front a)))

some_stripped : (front text rest : List ℕ) → list_all is_ascii_char front ≡ true → IsUtf8 text → text ≡ front ++ rest → IsUtf8 rest → strip front (chars text) ≡ Some (chars rest)
some_stripped front text rest a u e v =
    let found = behind_ascii front (chars text) rest a (encodes-chars text u ∙ e) in
    let left : found.0 ≡ chars rest = chars_from_encodes found.0 rest v found.2 in
    ap (strip front) found.1 ∙ strip-append front found.0 ∙ ap Some left

pub stripped : (front text : List ℕ) (r : Option (Bor (List ℕ))) → list_all is_ascii_char front ≡ true → IsUtf8 text → MatchOption r (FindsTextPrefix front text None) (λ x. StripsPrefix (FindsTextPrefix front) text x.now) → IsStripped front text r
stripped front text None a u h = none_stripped front text a u h (strip front (chars text)) refl
stripped front text (Some x) a u h =
    let n = h.0 in
    let whole : text ≡ front ++ x.now = h.1.1 ∙ ap (λ l. front ++ l) (sym h.2) in
    some_stripped front text x.now a u whole (subst IsUtf8 (sym h.2) (IsUtf8-drop text n u (subst (IsCharBoundary text) (sym h.1.0) h.1.2)))
