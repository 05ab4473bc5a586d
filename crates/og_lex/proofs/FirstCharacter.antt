-- The first character of a token tells of which sort it is.
use Rattle.std.proofs.Common.{◌≡◌, ◌≢◌, inl, inr, ℕ, ◌<◌, Bool, true, false, List, [], ◌∷◌, ◌++◌, refl, sym, ap, ◌∙◌, subst, arith, lit<}
use Rattle.std.specs.Prelude.{◌==◌, ◌&&◌, ◌||◌, nat_le}
use Rattle.std.specs.List.{list_all}
use Rattle.std.specs.Char.{is_ascii_alphabetic}
use Rattle.std.proofs.lemmas.Bool.{ltb-true, leb-true, eqb-true, cases_Bool, or_cases, and_parts, and_from}
use Rattle.unicode_ident.specs.Ident.{is_xid_start, is_xid_continue}
use Rattle.unicode_ident.proofs.IdentLemmas.{is_xid_start-ascii, is_xid_start-is_xid_continue}
use Rattle.og_lex.specs.declared.token.Kind.{Kind}
use Rattle.og_lex.specs.declared.token.Kind.TheVariants as kinds
use Rattle.og_lex.specs.declared.token.Word.{Word}
use Rattle.og_lex.specs.declared.token.Word.TheVariants as words
use Rattle.og_lex.specs.declared.token.Mark.{Mark}
use Rattle.og_lex.specs.declared.token.Mark.TheVariants as marks
use Rattle.og_lex.specs.Characters.{is_blank, is_digit, is_ascii_char}
use Rattle.og_lex.specs.Tables.{word_text, mark_text}
use Rattle.og_lex.specs.Spelling.{Spells, is_name}
use Rattle.og_lex.proofs.Numbers.{digit_range}

pub data Sort : Type 0 where
  space : Sort
  letter : Sort
  line : Sort
  digit : Sort
  quote : Sort
  symbol : Sort

abbrev pub sort_from : (blank starts under digits quotes : Bool) → Sort
sort_from true starts under digits quotes = space
sort_from false true under digits quotes = letter
sort_from false false true digits quotes = line
sort_from false false false true quotes = digit
sort_from false false false false true = quote
sort_from false false false false false = symbol

unfoldable pub sort_of : ℕ → Sort
sort_of c = sort_from (is_blank c) (is_xid_start c) (c == 95) (is_digit c) (c == 34)

abbrev pub is_symbol : Sort → Bool
is_symbol symbol = true
is_symbol s = false

abbrev pub kind_sort : Kind → Sort
kind_sort kinds.Name = letter
kind_sort kinds.Under = line
kind_sort (kinds.Number n) = digit
kind_sort kinds.Text = quote
kind_sort (kinds.Word w) = letter
kind_sort (kinds.Mark m) = symbol
kind_sort kinds.Separator = symbol

-- an ASCII character has the sort that these tests give
abbrev pub ascii_sort : ℕ → Sort
ascii_sort c = sort_from (is_blank c) (is_ascii_alphabetic c) (c == 95) (is_digit c) (c == 34)

pub sort_of-ascii : (c : ℕ) → c < 128 → sort_of c ≡ ascii_sort c
unfolding sort_of
sort_of-ascii c h = ap (λ b. sort_from (is_blank c) b (c == 95) (is_digit c) (c == 34)) (is_xid_start-ascii c h)

pub blank_each : (P : ℕ → Type 0) (c : ℕ) → is_blank c ≡ true → P 32 → P 9 → P 10 → P 13 → P c
blank_each P c e p32 p9 p10 p13 =
    elim (or_cases ((c == 32) || (c == 9) || (c == 10)) (c == 13) e) [
      | inl three ↦ elim (or_cases ((c == 32) || (c == 9)) (c == 10) three) [
        | inl two ↦ elim (or_cases (c == 32) (c == 9) two) [
          | inl at ↦ subst P (sym (eqb-true c 32 at)) p32
          | inr at ↦ subst P (sym (eqb-true c 9 at)) p9
        ]
        | inr at ↦ subst P (sym (eqb-true c 10 at)) p10
      ]
      | inr at ↦ subst P (sym (eqb-true c 13 at)) p13
    ]

-- what begins a name is no blank
blank_ascii : (c : ℕ) → is_blank c ≡ true → (c < 128) × (is_ascii_alphabetic c ≡ false)
blank_ascii c e = blank_each (λ x. (x < 128) × (is_ascii_alphabetic x ≡ false)) c e (lit< tt, refl) (lit< tt, refl) (lit< tt, refl) (lit< tt, refl)

no_blank : (c : ℕ) → (is_blank c ≡ true → ⊥) → is_blank c ≡ false
no_blank c h = elim (cases_Bool (is_blank c)) [ inl b ↦ absurd (h b) | inr other ↦ other ]

pub sort_of-starts : (c : ℕ) → is_xid_start c ≡ true → sort_of c ≡ letter
unfolding sort_of
sort_of-starts c e =
    let other : is_blank c ≡ false = no_blank c (λ b. let h = blank_ascii c b in let n = is_xid_start-ascii c h.0 in let m = h.1 in cc) in
    ap (λ b. sort_from b (is_xid_start c) (c == 95) (is_digit c) (c == 34)) other ∙ ap (λ b. sort_from false b (c == 95) (is_digit c) (c == 34)) e

pub sort_of-digit : (c : ℕ) → is_digit c ≡ true → sort_of c ≡ digit
sort_of-digit c e =
    let r = digit_range c e in
    let other : is_blank c ≡ false = no_blank c (λ b. let n = blank_each (λ x. is_digit x ≡ false) c b refl refl refl refl in cc) in
    let letters : is_ascii_alphabetic c ≡ false = elim (cases_Bool (is_ascii_alphabetic c)) [
      | inl a ↦ elim (or_cases (nat_le 65 c && nat_le c 90) (nat_le 97 c && nat_le c 122) a) [
        | inl b ↦ absurd (omega (arith, leb-true 65 c (and_parts (nat_le 65 c) (nat_le c 90) b).0))
        | inr b ↦ absurd (omega (arith, leb-true 97 c (and_parts (nat_le 97 c) (nat_le c 122) b).0))
      ]
      | inr n ↦ n
    ] in
    let under : (c == 95) ≡ false = elim (cases_Bool (c == 95)) [ inl a ↦ absurd (omega (arith, eqb-true c 95 a)) | inr n ↦ n ] in
    let small : c < 128 = omega arith in
    sort_of-ascii c small
    ∙ ap (λ b. sort_from b (is_ascii_alphabetic c) (c == 95) (is_digit c) (c == 34)) other
    ∙ ap (λ b. sort_from false b (c == 95) (is_digit c) (c == 34)) letters
    ∙ ap (λ b. sort_from false false b (is_digit c) (c == 34)) under
    ∙ ap (λ b. sort_from false false false b (c == 34)) e

pub sort_of-blank : (c : ℕ) → is_blank c ≡ true → sort_of c ≡ space
unfolding sort_of
sort_of-blank c e = ap (λ b. sort_from b (is_xid_start c) (c == 95) (is_digit c) (c == 34)) e

-- reserved words are names
names : List ℕ → Bool
names [] = false
names (c ∷ cs) = is_ascii_char c && is_ascii_alphabetic c && list_all (λ x. is_ascii_char x && is_ascii_alphabetic x) cs

word_names : (w : Word) → names (word_text w) ≡ true
unfolding word_text names
word_names words.«Type» = refl
word_names words.Fn = refl
word_names words.Game = refl
word_names words.Block = refl
word_names words.Inputs = refl
word_names words.Feedback = refl
word_names words.Operation = refl
word_names words.Outputs = refl
word_names words.Returns = refl
word_names words.DependentDecision = refl
word_names words.Nature = refl
word_names words.ForwardFunction = refl
word_names words.BackwardFunction = refl
word_names words.Identity = refl
word_names words.Library = refl
word_names words.If = refl
word_names words.Then = refl
word_names words.Elif = refl
word_names words.Else = refl
word_names words.End = refl
word_names words.Table = refl
word_names words.And = refl
word_names words.Or = refl
word_names words.Not = refl
word_names words.True = refl
word_names words.False = refl
word_names words.Bool = refl
word_names words.Number = refl
word_names words.Agent = refl
word_names words.Ratio = refl
word_names words.Min = refl
word_names words.Max = refl
word_names words.Clamp = refl
word_names words.Strategy = refl
word_names words.Among = refl
word_names words.Branch = refl
word_names words.Version = refl

-- the sort of the first character, and that it is ASCII
marks_sort : List ℕ → Bool
marks_sort [] = false
marks_sort (c ∷ cs) = is_ascii_char c && is_symbol (ascii_sort c)

mark_sorts : (m : Mark) → marks_sort (mark_text m) ≡ true
unfolding mark_text marks_sort
mark_sorts marks.LeftBrace = refl
mark_sorts marks.RightBrace = refl
mark_sorts marks.LeftParen = refl
mark_sorts marks.RightParen = refl
mark_sorts marks.LeftBracket = refl
mark_sorts marks.RightBracket = refl
mark_sorts marks.Comma = refl
mark_sorts marks.Semicolon = refl
mark_sorts marks.Colon = refl
mark_sorts marks.Dot = refl
mark_sorts marks.DotDot = refl
mark_sorts marks.Arrow = refl
mark_sorts marks.Assign = refl
mark_sorts marks.Equal = refl
mark_sorts marks.Differs = refl
mark_sorts marks.Less = refl
mark_sorts marks.AtMost = refl
mark_sorts marks.Greater = refl
mark_sorts marks.AtLeast = refl
mark_sorts marks.Plus = refl
mark_sorts marks.Minus = refl
mark_sorts marks.Star = refl
mark_sorts marks.Slash = refl
mark_sorts marks.Then = refl
mark_sorts marks.Beside = refl

letter_starts : (c : ℕ) → (is_ascii_char c && is_ascii_alphabetic c) ≡ true → is_xid_start c ≡ true
letter_starts c e = let h = and_parts (is_ascii_char c) (is_ascii_alphabetic c) e in is_xid_start-ascii c (ltb-true c 128 h.0) ∙ h.1

symbol_true : (s : Sort) → is_symbol s ≡ true → s ≡ symbol
symbol_true space e = cc
symbol_true letter e = cc
symbol_true line e = cc
symbol_true digit e = cc
symbol_true quote e = cc
symbol_true symbol e = refl

none_marked : marks_sort [] ≡ true → ⊥
unfolding marks_sort
none_marked e = cc

mark_sort : (c : ℕ) (cs : List ℕ) → marks_sort (c ∷ cs) ≡ true → sort_of c ≡ symbol
unfolding marks_sort
mark_sort c cs e = let h = and_parts (is_ascii_char c) (is_symbol (ascii_sort c)) e in sort_of-ascii c (ltb-true c 128 h.0) ∙ symbol_true (ascii_sort c) h.1

first : (c d : ℕ) (cs ds : List ℕ) → c ∷ cs ≡ d ∷ ds → c ≡ d
first c d cs ds e = cc

letters_continue : (cs : List ℕ) → list_all (λ x. is_ascii_char x && is_ascii_alphabetic x) cs ≡ true → list_all is_xid_continue cs ≡ true
letters_continue [] e = refl
letters_continue (c ∷ cs) e =
    let h = and_parts (is_ascii_char c && is_ascii_alphabetic c) (list_all (λ x. is_ascii_char x && is_ascii_alphabetic x) cs) e in
    and_from (is_xid_continue c) (list_all is_xid_continue cs) (is_xid_start-is_xid_continue c (letter_starts c h.0)) (letters_continue cs h.1)

letters_name : (cs : List ℕ) → names cs ≡ true → is_name cs ≡ true
unfolding names
letters_name [] e = e
letters_name (c ∷ cs) e =
    let h = and_parts (is_ascii_char c && is_ascii_alphabetic c) (list_all (λ x. is_ascii_char x && is_ascii_alphabetic x) cs) e in
    and_from (is_xid_start c) (list_all is_xid_continue cs) (letter_starts c h.0) (letters_continue cs h.1)

pub word_is_name : (w : Word) → is_name (word_text w) ≡ true
word_is_name w = letters_name (word_text w) (word_names w)

-- the first character of what spells a kind has the kind's sort
pub spelled_sort : (kind : Kind) (c : ℕ) (cs : List ℕ) → Spells kind (c ∷ cs) → sort_of c ≡ kind_sort kind
spelled_sort kinds.Name c cs s = sort_of-starts c (and_parts (is_xid_start c) (list_all is_xid_continue cs) s.0).0
spelled_sort kinds.Under c cs s = ap sort_of (first c 95 cs s.0 s.1) ∙ sort_of-ascii 95 (lit< tt)
spelled_sort (kinds.Number n) c cs s = sort_of-digit c (and_parts (is_digit c) (list_all is_digit cs) s.1).0
spelled_sort kinds.Text c cs s = ap sort_of (first c 34 cs (s.0 ++ 34 ∷ []) s.1) ∙ sort_of-ascii 34 (lit< tt)
spelled_sort (kinds.Word w) c cs s =
    let n : is_name (c ∷ cs) ≡ true = ap is_name s ∙ word_is_name w in
    sort_of-starts c (and_parts (is_xid_start c) (list_all is_xid_continue cs) n).0
spelled_sort (kinds.Mark m) c cs s = mark_sort c cs (ap marks_sort s ∙ mark_sorts m)
spelled_sort kinds.Separator c cs s = ap sort_of (first c 58 cs (s.0 ++ 58 ∷ []) s.1) ∙ sort_of-ascii 58 (lit< tt)

pub spelled_some : (kind : Kind) (front : List ℕ) → Spells kind front → front ≢ []
spelled_some kinds.Name front s e = let n = ap is_name e in let m = s.0 in cc
spelled_some kinds.Under front s e = let h = s.1 in cc
spelled_some (kinds.Number n) front s e = s.0 e
spelled_some kinds.Text front s e = let h = s.1 in cc
spelled_some (kinds.Word w) front s e = let n : is_name [] ≡ true = ap is_name (sym e ∙ s) ∙ word_is_name w in cc
spelled_some (kinds.Mark m) front s e = none_marked (ap marks_sort (sym e ∙ s) ∙ mark_sorts m)
spelled_some kinds.Separator front s e = let h = s.1 in cc
