-- A token with a blank behind it is taken as it is: no token goes on with the blank.
use Rattle.std.proofs.Common.{◌≡◌, ◌≢◌, inl, inr, ℕ, ◌<◌, Bool, true, false, List, [], ◌∷◌, ◌++◌, length, refl, sym, ap, ◌∙◌, subst, arith, lit<, append_assoc}
use Rattle.std.specs.Prelude.{Some, ◌==◌, ◌&&◌, not, codes}
use Rattle.std.specs.List.{list_all}
use Rattle.std.proofs.lemmas.Bool.{cases_lt, and_parts, and_from, eqb-true, eq-eqb, not-true}
use Rattle.std.proofs.lemmas.List.Folds.{list_all-append}
use Rattle.unicode_ident.specs.Ident.{is_xid_continue}
use Rattle.unicode_ident.proofs.IdentLemmas.{is_xid_continue-ascii}
use Rattle.og_lex.specs.declared.token.Kind.{Kind}
use Rattle.og_lex.specs.declared.token.Kind.TheVariants as kinds
use Rattle.og_lex.specs.declared.token.Mark.{Mark}
use Rattle.og_lex.specs.Characters.{is_blank, is_digit, is_hyphen, is_in_text, behind}
use Rattle.og_lex.specs.Tables.{mark_text, all_marks}
use Rattle.og_lex.specs.Spelling.{Spells, is_name, MayEnd, Stands}
use Rattle.og_lex.proofs.CharacterRuns.{behind-exact}
use Rattle.og_lex.proofs.FirstCharacter.{quote, symbol, kind_sort, sort_of, sort_of-ascii, blank_each, spelled_sort, spelled_some, word_is_name}
use Rattle.og_lex.proofs.TableLookups.{place, all_at}
use Rattle.og_lex.proofs.TokenAt.{names_continue, under_all}

-- No blank passes the test.
abbrev NoBlank : (ℕ → Bool) → Type 0
NoBlank p = (c : ℕ) → is_blank c ≡ true → p c ≡ false

is_plain : ℕ → Bool
is_plain c = not (is_blank c)

plain_none : NoBlank is_plain
unfolding is_plain
plain_none c b = ap not b

digit_none : NoBlank is_digit
digit_none c b = blank_each (λ x. is_digit x ≡ false) c b refl refl refl refl

continue_none : NoBlank is_xid_continue
continue_none c b =
    blank_each (λ x. is_xid_continue x ≡ false) c b (is_xid_continue-ascii 32 (lit< tt)) (is_xid_continue-ascii 9 (lit< tt)) (is_xid_continue-ascii 10 (lit< tt)) (is_xid_continue-ascii 13 (lit< tt))

-- characters that all pass such a test have no blank among them
none_among : (p : ℕ → Bool) (front more : List ℕ) (c : ℕ) → NoBlank p → is_blank c ≡ true → list_all p (front ++ c ∷ more) ≡ true → ⊥
none_among p front more c n b a =
    let both = and_parts (list_all p front) (list_all p (c ∷ more)) (sym (list_all-append p front (c ∷ more)) ∙ a) in
    let here = (and_parts (p c) (list_all p more) both.1).0 in
    let not_here = n c b in
    cc

-- whether the characters begin with two slashes
two_slashes : List ℕ → Bool
two_slashes [] = false
two_slashes (c ∷ []) = false
two_slashes (c ∷ d ∷ cs) = (c == 47) && (d == 47)

two_slashes-yes : (c d : ℕ) (cs : List ℕ) → c ≡ 47 → d ≡ 47 → two_slashes (c ∷ d ∷ cs) ≡ true
unfolding two_slashes
two_slashes-yes c d cs e f = and_from (c == 47) (d == 47) (eq-eqb c 47 e) (eq-eqb d 47 f)

no_separator : (cs : List ℕ) → two_slashes (58 ∷ cs) ≡ false
unfolding two_slashes
no_separator [] = refl
no_separator (c ∷ cs) = refl

-- no blank is in a mark, and no mark begins with two slashes
fits_mark : List ℕ → Bool
fits_mark cs = list_all is_plain cs && not (two_slashes cs)

marks_fit : list_all (λ m. fits_mark (mark_text m)) all_marks ≡ true
unfolding all_marks mark_text fits_mark is_plain two_slashes
marks_fit = refl

mark_fits : (m : Mark) → (list_all is_plain (mark_text m) ≡ true) × (not (two_slashes (mark_text m)) ≡ true)
unfolding fits_mark
mark_fits m =
    and_parts (list_all is_plain (mark_text m)) (not (two_slashes (mark_text m)))
    (all_at (λ k. fits_mark (mark_text k)) all_marks (place m).0 m marks_fit (place m).1)

no_mark : (m : Mark) → two_slashes (mark_text m) ≡ false
no_mark m = not-true (two_slashes (mark_text m)) (mark_fits m).1

hyphens_plain : (hs : List ℕ) → list_all is_hyphen hs ≡ true → list_all is_plain hs ≡ true
unfolding is_plain
hyphens_plain [] e = refl
hyphens_plain (h ∷ hs) e =
    let p = and_parts (is_hyphen h) (list_all is_hyphen hs) e in
    and_from (is_plain h) (list_all is_plain hs) (ap is_plain (eqb-true h 45 p.0)) (hyphens_plain hs p.1)

separator_plain : (front : List ℕ) → Spells kinds.Separator front → list_all is_plain front ≡ true
unfolding is_plain
separator_plain front s =
    ap (list_all is_plain) s.1 ∙ list_all-append is_plain s.0 (58 ∷ [])
    ∙ and_from (list_all is_plain s.0) true (hyphens_plain s.0 s.2) refl

-- only a text may have a blank inside, and it ends with its second double quote
only_text : (kind : Kind) → kind_sort kind ≡ quote → kind ≡ kinds.Text
only_text kinds.Name e = cc
only_text kinds.Under e = cc
only_text (kinds.Number n) e = cc
only_text kinds.Text e = refl
only_text (kinds.Word w) e = cc
only_text (kinds.Mark m) e = cc
only_text kinds.Separator e = cc

text_ends : (front more : List ℕ) (c : ℕ) → Spells kinds.Text front → Spells kinds.Text (front ++ c ∷ more) → ⊥
text_ends front more c s t =
    let whole : (34 ∷ (s.0 ++ 34 ∷ [])) ++ (c ∷ more) ≡ 34 ∷ (t.0 ++ 34 ∷ []) = ap (λ l. l ++ (c ∷ more)) (sym s.1) ∙ t.1 in
    let tail : (s.0 ++ 34 ∷ []) ++ (c ∷ more) ≡ t.0 ++ 34 ∷ [] = cc in
    let split : s.0 ++ (34 ∷ (c ∷ more)) ≡ t.0 ++ 34 ∷ [] = sym (append_assoc s.0 (34 ∷ []) (c ∷ more)) ∙ tail in
    let left : 34 ∷ (c ∷ more) ≡ 34 ∷ [] =
    sym (behind-exact is_in_text s.0 (34 ∷ (c ∷ more)) s.2 refl) ∙ ap (behind is_in_text) split ∙ behind-exact is_in_text t.0 (34 ∷ []) t.2 refl in
    cc

text_alone : (kind : Kind) (front more : List ℕ) (c : ℕ) → Spells kind front → Spells kinds.Text (front ++ c ∷ more) → ⊥
text_alone kind [] more c s t = spelled_some kind [] s refl
text_alone kind (d ∷ front) more c s t =
    let is : kind ≡ kinds.Text = only_text kind (sym (spelled_sort kind d front s) ∙ spelled_sort kinds.Text d (front ++ c ∷ more) t) in
    text_ends (d ∷ front) more c (subst (λ k. Spells k (d ∷ front)) is s) t

-- no token is another one, a blank and more
none_over : (kind other : Kind) (front more : List ℕ) (c : ℕ) → is_blank c ≡ true → Spells kind front → Spells other (front ++ c ∷ more) → ⊥
none_over kind kinds.Name front more c b s t =
    none_among is_xid_continue front more c continue_none b (names_continue (front ++ c ∷ more) t.0)
none_over kind kinds.Under front more c b s t =
    none_among is_xid_continue front more c continue_none b (under_all (front ++ c ∷ more) t).0
none_over kind (kinds.Number n) front more c b s t = none_among is_digit front more c digit_none b t.1
none_over kind kinds.Text front more c b s t = text_alone kind front more c s t
none_over kind (kinds.Word w) front more c b s t =
    none_among is_xid_continue front more c continue_none b (names_continue (front ++ c ∷ more) (ap is_name t ∙ word_is_name w))
none_over kind (kinds.Mark m) front more c b s t =
    none_among is_plain front more c plain_none b (ap (list_all is_plain) t ∙ (mark_fits m).0)
none_over kind kinds.Separator front more c b s t =
    none_among is_plain front more c plain_none b (separator_plain (front ++ c ∷ more) t)

-- a longer front has what stands behind a shorter one
goes_on : (longer after front rest : List ℕ) (c : ℕ) → longer ++ after ≡ front ++ c ∷ rest → length front < length longer → (more : List ℕ) × (longer ≡ front ++ c ∷ more)
goes_on [] after front rest c e l = absurd (omega arith)
goes_on (d ∷ longer) after [] rest c e l = let at : d ≡ c = cc in (longer, ap (λ x. x ∷ longer) at)
goes_on (d ∷ longer) after (f ∷ front) rest c e l =
    let at : d ≡ f = cc in
    let tail : longer ++ after ≡ front ++ c ∷ rest = cc in
    let more = goes_on longer after front rest c tail (omega arith) in
    (more.0, ap (λ x. x ∷ longer) at ∙ ap (λ t. f ∷ t) more.1)

-- no token begins with two slashes
no_slashes : (kind : Kind) (front : List ℕ) → kind_sort kind ≡ symbol → Spells kind front → two_slashes front ≡ false
unfolding two_slashes
no_slashes kinds.Name front e s = cc
no_slashes kinds.Under front e s = cc
no_slashes (kinds.Number n) front e s = cc
no_slashes kinds.Text front e s = cc
no_slashes (kinds.Word w) front e s = cc
no_slashes (kinds.Mark m) front e s = ap two_slashes s ∙ no_mark m
no_slashes kinds.Separator front e s = ap two_slashes s.1 ∙ no_separator (s.0 ++ 58 ∷ [])

-- no comment stands where the token and the blank do
no_comment : (kind : Kind) (front rest : List ℕ) (c : ℕ) → is_blank c ≡ true → Spells kind front → (after : List ℕ) → front ++ c ∷ rest ≢ codes "//" ++ after
no_comment kind [] rest c b s after e = spelled_some kind [] s refl
no_comment kind (d ∷ []) rest c b s after e = let at : c ≡ 47 = cc in let n = ap is_blank at in cc
no_comment kind (d ∷ g ∷ front) rest c b s after e =
    let one : d ≡ 47 = cc in
    let two : g ≡ 47 = cc in
    let sort : kind_sort kind ≡ symbol = sym (spelled_sort kind d (g ∷ front) s) ∙ ap sort_of one ∙ sort_of-ascii 47 (lit< tt) in
    let none = no_slashes kind (d ∷ g ∷ front) sort s in
    let some = two_slashes-yes d g front one two in
    cc

may_end : (kind : Kind) (rest : List ℕ) (c : ℕ) → is_blank c ≡ true → MayEnd kind (c ∷ rest)
may_end kinds.Name rest c b = tt
may_end kinds.Under rest c b = tt
may_end (kinds.Number n) rest c b = digit_none c b
may_end kinds.Text rest c b = tt
may_end (kinds.Word w) rest c b = tt
may_end (kinds.Mark m) rest c b = tt
may_end kinds.Separator rest c b = tt

pub token_stands : (kind : Kind) (front rest : List ℕ) (c : ℕ) → is_blank c ≡ true → Spells kind front → Stands (Some kind) front (c ∷ rest)
token_stands kind front rest c b s = (
  record {
    begins = record { spelled = s; may_end = may_end kind rest c b };
    longest = λ other longer after e t.
        elim (cases_lt (length front) (length longer)) [
          | inl l ↦
              let more = goes_on longer after front rest c e l in
              absurd (none_over kind other front more.0 c b s (subst (Spells other) more.1 t.spelled))
          | inr l ↦ l
        ];
  },
  no_comment kind front rest c b s,
)
