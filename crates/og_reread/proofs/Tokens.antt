-- Single tokens, spelled again.
use Rattle.std.proofs.Common.{◌≡◌, ◌≢◌, ◌∙◌, ℕ, zero, suc, ◌+◌, ◌-◌, ◌^◌, ◌<◌, Bool, true, false, cond, List, [], ◌∷◌, ◌++◌, length, take, get_or, refl, sym, ap, subst, arith, append_assoc, length-append}
use Rattle.std.specs.Prelude.{codes, decimal, nat_lt, nat_le, ◌==◌, ◌&&◌, if◌then◌else◌, encode_utf8_all, slice_range}
use Rattle.std.specs.List.{list_all, AllByRecursion}
use Rattle.std.specs.Str.{chars, IsUtf8}
use Rattle.std.specs.Str.Parse.{AllDigits, IsNumeral}
use Rattle.std.proofs.lemmas.Str.{chars-IsAscii, IsUtf8-from_ascii, encodes-chars, encodes-append}
use Rattle.std.proofs.lemmas.Bool.{and_parts, and_from, ltb-true, lt-ltb, le-leb, eq-eqb}
use Rattle.std.proofs.lemmas.List.{get_or_push}
use Rattle.std.proofs.Math.Seq.{take-append_seam}
use Rattle.std.proofs.lemmas.Fmt.{decimal_is_IsNumeral}
use Rattle.std.proofs.lemmas.Str.Parse.{digit_from_value}
use Rattle.og_lex.specs.declared.token.Kind.{Kind}
use Rattle.og_lex.specs.declared.token.Kind.TheVariants as kinds
use Rattle.og_lex.specs.declared.token.Word.{Word}
use Rattle.og_lex.specs.declared.token.Mark.{Mark}
use Rattle.og_lex.specs.Characters.{is_blank, is_digit, is_ascii_char}
use Rattle.og_lex.specs.Spelling.{Spells}
use Rattle.og_lex.specs.Tables.{word_text, mark_text}
use Rattle.og_lex.specs.Written.{Written, IsWritten}
use Rattle.og_lex.proofs.WordBytes.{word_ascii}
use Rattle.og_lex.proofs.Numbers.{digits_ascii}
use Rattle.og_lex.proofs.Strip.{ascii_encodes}
use Rattle.og_lex.proofs.TableLookups.{place, all_at}
use Rattle.og_lex.specs.Tables.{all_marks}
use Rattle.og_grammar.specs.Lexeme.{Lexeme, terminal_of, value_of, inside_quotes}
use Rattle.og_grammar.specs.declared.terminal.Terminal.{Terminal}
use Rattle.og_grammar.specs.declared.terminal.Terminal.TheVariants as terminals
use Rattle.og_grammar.specs.Reading.{any}
use Rattle.og_grammar.specs.Rule.{Meaning, one, map, same_terminal}
use Rattle.og_grammar.specs.Combinators as rules
use Rattle.og_grammar.proofs.SameTerminals.{one_terminal, equal_terminals}
use Rattle.og_language.specs.Symbols.{symbols}
use Rattle.og_canonical.specs.Tokens as c
use Rattle.og_reread.specs.Lexemes.{IsLexeme}
use Rattle.og_reread.proofs.Again.{Writes, w_map, w_text, Again}

-- what is as it was written
abbrev pub Equal : {A : Type 0} → A → A → Type 0
Equal a b = b ≡ a

-- of which nothing matters
abbrev pub Whatever : {A : Type 0} → A → A → Type 0
Whatever a b = Unit {0}

-- ---- one token

-- what is known of a lexeme that was written so
abbrev pub IsOf : Written → Lexeme → Type 0
IsOf w t = (t.value ≡ value_of w.kind) × (t.spelling ≡ w.bytes)

pub w_one : (w : Written) → IsWritten w → (k : Terminal) (test : Lexeme → Bool) → terminal_of w.kind ≡ k
    → ((t : Lexeme) → t.value ≡ value_of w.kind → test t ≡ true) → Writes (one k test) (w.bytes ++ (w.blank ∷ [])) (IsOf w)
w_one w is k test same passes = record {
  row = w ∷ [];
  good = (is, tt);
  is_text = refl;
  spelled = λ at.
      let t : Lexeme = record { terminal = terminal_of w.kind; value = value_of w.kind; start = at; spelling = w.bytes } in
      (t, (refl, equal_terminals (terminal_of w.kind) k same, passes t refl), (refl, refl));
}

-- ---- bytes below 128

ascii_at : (bs : List ℕ) → list_all is_ascii_char bs ≡ true → (i : ℕ) → get_or bs i 0 < 128
ascii_at [] all i = omega arith
ascii_at (b ∷ bs) all zero = ltb-true b 128 (and_parts (is_ascii_char b) (list_all is_ascii_char bs) all).0
ascii_at (b ∷ bs) all (suc i) = ascii_at bs (and_parts (is_ascii_char b) (list_all is_ascii_char bs) all).1 i

pub ascii_utf8 : (bs : List ℕ) → list_all is_ascii_char bs ≡ true → IsUtf8 bs
ascii_utf8 bs all = IsUtf8-from_ascii bs (ascii_at bs all)

pub ascii_chars : (bs : List ℕ) → list_all is_ascii_char bs ≡ true → chars bs ≡ bs
ascii_chars bs all = chars-IsAscii bs (ascii_at bs all)

-- ---- marks, words and separators

marks_ascii : list_all (λ m. list_all is_ascii_char (mark_text m)) all_marks ≡ true
unfolding all_marks mark_text
marks_ascii = refl

mark_ascii : (m : Mark) → list_all is_ascii_char (mark_text m) ≡ true
mark_ascii m = let p = place m in all_at (λ k. list_all is_ascii_char (mark_text k)) all_marks p.0 m marks_ascii p.1

blank_of : Mark → ℕ
blank_of m = if c.ends_line m then 10 else 32

either_blank : (b : Bool) → is_blank (if b then 10 else 32) ≡ true
either_blank true = refl
either_blank false = refl

written_mark : Mark → Written
written_mark m = record { kind = kinds.Mark m; bytes = mark_text m; blank = if c.ends_line m then 10 else 32 }

is_mark : (m : Mark) → IsWritten (written_mark m)
unfolding written_mark
is_mark m = record {
  utf8 = ascii_utf8 (mark_text m) (mark_ascii m);
  spelled = ascii_chars (mark_text m) (mark_ascii m);
  is_blank = either_blank (c.ends_line m);
}

pub w_mark : (m : Mark) → Writes (rules.mark m) (c.mark m) (λ _. Unit {0})
unfolding written_mark c.mark
w_mark m =
    w_map (λ t. t.start) (one (terminals.Mark m) any) (c.mark m) (IsOf (written_mark m)) (λ _. Unit {0}) (λ t is. tt)
    (w_one (written_mark m) (is_mark m) (terminals.Mark m) any refl (λ t e. refl))

written_word : Word → Written
written_word w = record { kind = kinds.Word w; bytes = word_text w; blank = 32 }

is_word : (w : Word) → IsWritten (written_word w)
unfolding written_word
is_word w = record {
  utf8 = ascii_utf8 (word_text w) (word_ascii w);
  spelled = ascii_chars (word_text w) (word_ascii w);
  is_blank = refl;
}

pub w_word : (w : Word) → Writes (rules.word w) (c.word w) (λ _. Unit {0})
unfolding written_word c.word c.spaced
w_word w =
    w_map (λ t. t.start) (one (terminals.Word w) any) (c.word w) (IsOf (written_word w)) (λ _. Unit {0}) (λ t is. tt)
    (w_one (written_word w) (is_word w) (terminals.Word w) any refl (λ t e. refl))

separator_token : Written
separator_token = record { kind = kinds.Separator; bytes = codes ":-----:"; blank = 10 }

is_separator : IsWritten separator_token
unfolding separator_token
is_separator = record {
  utf8 = ascii_utf8 (codes ":-----:") refl;
  spelled = (codes "-----", ascii_chars (codes ":-----:") refl, refl, omega arith);
  is_blank = refl;
}

pub w_separator : Writes (rules.place_of terminals.Separator) c.separator (λ _. Unit {0})
unfolding separator_token c.separator
w_separator =
    w_map (λ t. t.start) (one terminals.Separator any) c.separator (IsOf separator_token) (λ _. Unit {0}) (λ t is. tt)
    (w_one separator_token is_separator terminals.Separator any refl (λ t e. refl))

-- ---- names

-- what a kind spells, whose terminal is that of another
name_kind : (kind : Kind) (cs : List ℕ) → terminal_of kind ≡ terminals.Name → Spells kind cs → Spells kinds.Name cs
name_kind kinds.Name cs e s = s
name_kind kinds.Under cs e s = cc
name_kind (kinds.Number n) cs e s = cc
name_kind kinds.Text cs e s = cc
name_kind (kinds.Word w) cs e s = cc
name_kind (kinds.Mark m) cs e s = cc
name_kind kinds.Separator cs e s = cc

under_kind : (kind : Kind) (cs : List ℕ) → terminal_of kind ≡ terminals.Under → Spells kind cs → Spells kinds.Under cs
under_kind kinds.Name cs e s = cc
under_kind kinds.Under cs e s = s
under_kind (kinds.Number n) cs e s = cc
under_kind kinds.Text cs e s = cc
under_kind (kinds.Word w) cs e s = cc
under_kind (kinds.Mark m) cs e s = cc
under_kind kinds.Separator cs e s = cc

text_kind : (kind : Kind) (cs : List ℕ) → terminal_of kind ≡ terminals.Text → Spells kind cs → Spells kinds.Text cs
text_kind kinds.Name cs e s = cc
text_kind kinds.Under cs e s = cc
text_kind (kinds.Number n) cs e s = cc
text_kind kinds.Text cs e s = s
text_kind (kinds.Word w) cs e s = cc
text_kind (kinds.Mark m) cs e s = cc
text_kind kinds.Separator cs e s = cc

number_kind : (kind : Kind) (cs : List ℕ) → terminal_of kind ≡ terminals.Number → Spells kind cs → value_of kind < 2 ^ 63
number_kind kinds.Name cs e s = cc
number_kind kinds.Under cs e s = cc
number_kind (kinds.Number n) cs e s = s.3
number_kind kinds.Text cs e s = cc
number_kind (kinds.Word w) cs e s = cc
number_kind (kinds.Mark m) cs e s = cc
number_kind kinds.Separator cs e s = cc

-- a token that is written as it was
w_spelled : (kind : Kind) (bytes : List ℕ) → IsUtf8 bytes → Spells kind (chars bytes)
    → Writes (rules.spelling_of (terminal_of kind)) (c.spaced bytes) (Equal bytes)
unfolding c.spaced
w_spelled kind bytes utf8 spelled =
    let w : Written = record { kind = kind; bytes = bytes; blank = 32 } in
    w_map (λ t. t.spelling) (one (terminal_of kind) any) (bytes ++ (32 ∷ [])) (IsOf w) (Equal bytes) (λ t is. is.1)
    (w_one w (record { utf8 = utf8; spelled = spelled; is_blank = refl }) (terminal_of kind) any refl (λ t e. refl))

module _ (m : Meaning symbols) where
  -- one lexeme, of a terminal
  lexeme_kind : (k : Terminal) (t : Lexeme) → (is : IsLexeme t) → same_terminal t.terminal k ≡ true → terminal_of is.kind ≡ k
  lexeme_kind k t is same = sym is.terminal ∙ one_terminal t.terminal k same

  first_real : (ts : List Lexeme) (t : Lexeme) → ts ≡ t ∷ [] → AllByRecursion IsLexeme ts → IsLexeme t
  first_real ts t is real = (subst (AllByRecursion IsLexeme) is real).0

  pub a_name : Again m (rules.spelling_of terminals.Name) c.spaced Equal
  a_name ts v real (t, (is, same, passes), made) =
      let lexeme = first_real ts t is real in
      subst (λ b. Writes (rules.spelling_of terminals.Name) (c.spaced b) (Equal b)) (sym made)
      (w_spelled kinds.Name t.spelling lexeme.utf8
      (name_kind lexeme.kind (chars t.spelling) (lexeme_kind terminals.Name t lexeme same) lexeme.spelled))

  pub a_under : Again m (rules.spelling_of terminals.Under) c.spaced Equal
  a_under ts v real (t, (is, same, passes), made) =
      let lexeme = first_real ts t is real in
      subst (λ b. Writes (rules.spelling_of terminals.Under) (c.spaced b) (Equal b)) (sym made)
      (w_spelled kinds.Under t.spelling lexeme.utf8
      (under_kind lexeme.kind (chars t.spelling) (lexeme_kind terminals.Under t lexeme same) lexeme.spelled))

  pub a_mark : (k : Mark) → Again m (rules.mark k) (λ _. c.mark k) Whatever
  a_mark k ts v real is = w_mark k

  pub a_word : (k : Word) → Again m (rules.word k) (λ _. c.word k) Whatever
  a_word k ts v real is = w_word k

  pub a_separator : Again m (rules.place_of terminals.Separator) (λ _. c.separator) Whatever
  a_separator ts v real is = w_separator

-- ---- numbers

digits_from : (ds : List ℕ) → AllDigits 10 ds → list_all is_digit ds ≡ true
digits_from [] all = refl
digits_from (d ∷ ds) all =
    let r = digit_from_value d all.0 in
    and_from (is_digit d) (list_all is_digit ds)
    (and_from (nat_le 48 d) (nat_le d 57) (le-leb 48 d r.0) (le-leb d 57 r.1)) (digits_from ds all.1)

some_digits : (ds : List ℕ) → IsNumeral 10 ds → ds ≢ []
some_digits ds is none = absurd (omega (arith, is.0, ap length none))

number_written : (n : ℕ) → n < 2 ^ 63 → IsWritten (record { kind = kinds.Number n; bytes = decimal n; blank = 32 })
number_written n small =
    let is = decimal_is_IsNumeral n (omega (arith, small)) in
    let digits = digits_from (decimal n) is.0.1 in
    let ascii = digits_ascii (decimal n) digits in
    let own = ascii_chars (decimal n) ascii in
    record {
      utf8 = ascii_utf8 (decimal n) ascii;
      spelled = subst (Spells (kinds.Number n)) (sym own) (some_digits (decimal n) is.0, digits, is.1, small);
      is_blank = refl;
    }

-- a number that passes a test of its value
pub w_number : (n : ℕ) → n < 2 ^ 63 → (test : Lexeme → Bool) → ((t : Lexeme) → t.value ≡ n → test t ≡ true)
    → Writes (map (λ t. t.value) (one terminals.Number test)) (c.number n) (Equal n)
unfolding c.number c.spaced
w_number n small test passes =
    let w : Written = record { kind = kinds.Number n; bytes = decimal n; blank = 32 } in
    w_map (λ t. t.value) (one terminals.Number test) (decimal n ++ (32 ∷ [])) (IsOf w) (Equal n) (λ t is. is.0)
    (w_one w (number_written n small) terminals.Number test refl passes)

-- ---- texts in quotes

-- what stands between two quotes
inside_two : (inside : List ℕ) → inside_quotes (34 ∷ (inside ++ (34 ∷ []))) ≡ inside
inside_two inside =
    let cs : List ℕ = inside ++ (34 ∷ []) in
    let long : length cs ≡ length inside + 1 = length-append inside (34 ∷ []) in
    let at : length cs - 1 ≡ length inside = omega (arith, long) in
    let last : get_or cs (length cs - 1) 0 ≡ 34 = ap (λ i. get_or cs i 0) at ∙ get_or_push inside 34 0 (length inside) refl in
    let ends : (nat_lt 0 (length cs) && (get_or cs (length cs - 1) 0 == 34)) ≡ true =
    and_from (nat_lt 0 (length cs)) (get_or cs (length cs - 1) 0 == 34) (lt-ltb 0 (length cs) (omega (arith, long))) (eq-eqb (get_or cs (length cs - 1) 0) 34 last) in
    let width : length (34 ∷ cs) - 1 - 1 ≡ length inside = omega (arith, long) in
    let cut : slice_range (34 ∷ cs) 1 (length (34 ∷ cs) - 1) ≡ inside = ap (λ n. take n cs) width ∙ take-append_seam inside (34 ∷ []) in
    ap (λ b. cond b (slice_range (34 ∷ cs) 1 (length (34 ∷ cs) - 1)) []) ends ∙ cut

-- the bytes of a text in quotes
quoted_bytes : (bytes : List ℕ) → IsUtf8 bytes → Spells kinds.Text (chars bytes) → bytes ≡ 34 ∷ (inside_quotes bytes ++ (34 ∷ []))
quoted_bytes bytes utf8 (inside, is, all) =
    let e : List ℕ = encode_utf8_all inside in
    let own : bytes ≡ 34 ∷ (e ++ (34 ∷ [])) =
    sym (encodes-chars bytes utf8) ∙ ap encode_utf8_all is ∙ encodes-append (34 ∷ []) (inside ++ (34 ∷ []))
    ∙ (λ i. ascii_encodes (34 ∷ []) refl i ++ encodes-append inside (34 ∷ []) i) ∙ ap (λ l. 34 ∷ (e ++ l)) (ascii_encodes (34 ∷ []) refl) in
    let same : inside_quotes bytes ≡ e = ap inside_quotes own ∙ inside_two e in
    own ∙ ap (λ l. 34 ∷ (l ++ (34 ∷ []))) (sym same)

w_quoted : (bytes : List ℕ) → IsUtf8 bytes → Spells kinds.Text (chars bytes)
    → Writes rules.quoted (c.quoted (inside_quotes bytes)) (Equal (inside_quotes bytes))
unfolding c.quoted
w_quoted bytes utf8 spelled =
    let w : Written = record { kind = kinds.Text; bytes = bytes; blank = 32 } in
    let v : List ℕ = inside_quotes bytes in
    let text : bytes ++ (32 ∷ []) ≡ 34 ∷ (v ++ (34 ∷ 32 ∷ [])) =
    ap (λ l. l ++ (32 ∷ [])) (quoted_bytes bytes utf8 spelled) ∙ ap (λ l. 34 ∷ l) (append_assoc v (34 ∷ []) (32 ∷ [])) in
    w_text rules.quoted (bytes ++ (32 ∷ [])) (34 ∷ (v ++ (34 ∷ 32 ∷ []))) (Equal v) text
    (w_map (λ t. inside_quotes t.spelling) (one terminals.Text any) (bytes ++ (32 ∷ [])) (IsOf w) (Equal v) (λ t is. ap inside_quotes is.1)
    (w_one w (record { utf8 = utf8; spelled = spelled; is_blank = refl }) terminals.Text any refl (λ t e. refl)))

module _ (m : Meaning symbols) where
  -- a number of a lexeme is below 2^63
  pub number_small : (t : Lexeme) (is : IsLexeme t) → same_terminal t.terminal terminals.Number ≡ true → t.value < 2 ^ 63
  number_small t is same =
      subst (λ n. n < 2 ^ 63) (sym is.value)
      (number_kind is.kind (chars t.spelling) (lexeme_kind m terminals.Number t is same) is.spelled)

  pub a_number : Again m rules.number c.number Equal
  a_number ts v real (t, (is, same, passes), made) =
      let lexeme = first_real m ts t is real in
      subst (λ b. Writes rules.number (c.number b) (Equal b)) (sym made)
      (w_number t.value (number_small t lexeme same) any (λ u e. refl))

  pub a_quoted : Again m rules.quoted c.quoted Equal
  a_quoted ts v real (t, (is, same, passes), made) =
      let lexeme = first_real m ts t is real in
      subst (λ b. Writes rules.quoted (c.quoted b) (Equal b)) (sym made)
      (w_quoted t.spelling lexeme.utf8
      (text_kind lexeme.kind (chars t.spelling) (lexeme_kind m terminals.Text t lexeme same) lexeme.spelled))
