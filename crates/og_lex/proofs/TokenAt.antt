-- What is read of a token at a place, against the tokens that may stand there.
use Rattle.std.proofs.Common.{◌≡◌, ◌⊎◌, inl, inr, ℕ, ◌^◌, ◌<◌, ◌≤◌, Bool, true, false, cond, List, [], ◌∷◌, ◌++◌, length, refl, sym, ap, ◌∙◌, subst, arith, lit<, append_assoc, length-append}
use Rattle.std.specs.Prelude.{Option, Some, None, Result, Ok, Err, ◌==◌, nat_lt}
use Rattle.std.specs.List.{list_all}
use Rattle.std.specs.Str.Parse.{digits_value}
use Rattle.std.proofs.lemmas.Bool.{eqb-true, eq-eqb, ltb-true, ltb-false, le-ltb, cond-true, cond-false, and_parts, and_from, cond_both}
use Rattle.unicode_ident.specs.Ident.{is_xid_start, is_xid_continue}
use Rattle.unicode_ident.proofs.IdentLemmas.{is_xid_continue-ascii, is_xid_start-is_xid_continue}
use Rattle.og_lex.specs.declared.token.Kind.{Kind}
use Rattle.og_lex.specs.declared.token.Kind.TheVariants as kinds
use Rattle.og_lex.specs.declared.token.Word.{Word}
use Rattle.og_lex.specs.declared.token.Mark.{Mark}
use Rattle.og_lex.specs.declared.fault.LexFault.{LexFault}
use Rattle.og_lex.specs.declared.fault.LexFault.TheVariants as faults
use Rattle.og_lex.specs.Characters.{is_blank, is_digit, is_hyphen, is_in_text, is_ascii_char, run, behind, byte_len}
use Rattle.og_lex.specs.Tables.{mark_text}
use Rattle.og_lex.specs.LeftToRight.{strip, kind_of, word_of, name_at, under_at, number_of, number_or_fault, number_at, text_or_fault, text_at, separator_end, mark_at, mark_or_fault, separator_or, symbol_at, token_at}
use Rattle.og_lex.specs.Spelling.{Spells, is_name, Begins, IsTokenAt, fault_of}
use Rattle.og_lex.proofs.TextCuts.{run-yes}
use Rattle.og_lex.proofs.CharacterRuns.{run-behind, behind-stops, front_le_run, run-exact, behind-exact}
use Rattle.og_lex.proofs.Numbers.{run-all}
use Rattle.og_lex.proofs.Strip.{strip-is, strip-append, ascii_encodes}
use Rattle.og_lex.proofs.ByteLen.{length-le-byte_len, some_length}
use Rattle.og_lex.proofs.FirstCharacter.{letter, line, digit, quote, symbol, sort_from, kind_sort, sort_of, sort_of-ascii, sort_of-starts, sort_of-digit, spelled_sort, spelled_some, word_is_name}
use Rattle.og_lex.proofs.TableLookups.{word_of-text, word_of-is, mark_short, mark_at-found, mark_at-none}

-- a token of the kind is taken at the front of the characters, and rest follows it
pub record IsTaken (kind : Kind) (cs rest : List ℕ) : Type 0 where
  pub front : List ℕ
  pub whole : cs ≡ front ++ rest
  pub taken : IsTokenAt kind front rest

abbrev pub NoneBegins : List ℕ → Type 0
NoneBegins cs = (kind : Kind) (front rest : List ℕ) → front ++ rest ≡ cs → Begins kind front rest → ⊥

-- what the reading of a token tells of the characters c ∷ cs
abbrev pub Tells : ℕ → ℕ → List ℕ → Result (Kind × List ℕ) LexFault → Type 0
Tells place c cs (Ok (kind, rest)) = IsTaken kind (c ∷ cs) rest
Tells place c cs (Err fault) = NoneBegins (c ∷ cs) × (fault ≡ fault_of place c)

pub begins_sort : (kind : Kind) (front rest : List ℕ) (c : ℕ) (cs : List ℕ) → front ++ rest ≡ c ∷ cs → Begins kind front rest → sort_of c ≡ kind_sort kind
begins_sort kind [] rest c cs e b = absurd (spelled_some kind [] b.spelled refl)
begins_sort kind (d ∷ front) rest c cs e b = let at : d ≡ c = cc in ap sort_of (sym at) ∙ spelled_sort kind d front b.spelled

pub names_continue : (front : List ℕ) → is_name front ≡ true → list_all is_xid_continue front ≡ true
names_continue [] e = refl
names_continue (c ∷ cs) e =
    let h = and_parts (is_xid_start c) (list_all is_xid_continue cs) e in
    and_from (is_xid_continue c) (list_all is_xid_continue cs) (is_xid_start-is_xid_continue c h.0) h.1

-- names and reserved words
name_longest : (kind : Kind) (front rest : List ℕ) (c : ℕ) (cs : List ℕ) → sort_of c ≡ letter → front ++ rest ≡ c ∷ cs → Begins kind front rest → length front ≤ length (run is_xid_continue (c ∷ cs))
name_longest kinds.Name front rest c cs s e b = subst (λ l. length front ≤ length (run is_xid_continue l)) e (front_le_run is_xid_continue front rest (names_continue front b.spelled.0))
name_longest (kinds.Word w) front rest c cs s e b =
    subst (λ l. length front ≤ length (run is_xid_continue l)) e (front_le_run is_xid_continue front rest (names_continue front (ap is_name b.spelled ∙ word_is_name w)))
name_longest kinds.Under front rest c cs s e b = let t = begins_sort kinds.Under front rest c cs e b in cc
name_longest (kinds.Number n) front rest c cs s e b = let t = begins_sort (kinds.Number n) front rest c cs e b in cc
name_longest kinds.Text front rest c cs s e b = let t = begins_sort kinds.Text front rest c cs e b in cc
name_longest (kinds.Mark m) front rest c cs s e b = let t = begins_sort (kinds.Mark m) front rest c cs e b in cc
name_longest kinds.Separator front rest c cs s e b = let t = begins_sort kinds.Separator front rest c cs e b in cc

name_begins : (front rest : List ℕ) (o : Option Word) → is_name front ≡ true → word_of front ≡ o → Begins (kind_of o) front rest
name_begins front rest None n e = record { spelled = (n, λ w at. let f = word_of-text w in let g = ap word_of at in cc); may_end = tt }
name_begins front rest (Some w) n e = record { spelled = word_of-is front w e; may_end = tt }

name_told : (place c : ℕ) (cs : List ℕ) → is_xid_start c ≡ true → Tells place c cs (Ok (name_at (c ∷ cs)))
unfolding name_at
name_told place c cs s =
    let goes : is_xid_continue c ≡ true = is_xid_start-is_xid_continue c s in
    let front : run is_xid_continue (c ∷ cs) ≡ c ∷ run is_xid_continue cs = run-yes is_xid_continue c cs goes in
    let name : is_name (run is_xid_continue (c ∷ cs)) ≡ true =
    ap is_name front ∙ and_from (is_xid_start c) (list_all is_xid_continue (run is_xid_continue cs)) s (run-all is_xid_continue cs) in
    let whole = run-behind is_xid_continue (c ∷ cs) in
    record {
      front = run is_xid_continue (c ∷ cs);
      whole = whole;
      taken = record {
        begins = name_begins (run is_xid_continue (c ∷ cs)) (behind is_xid_continue (c ∷ cs)) (word_of (run is_xid_continue (c ∷ cs))) name refl;
        longest = λ kind f r e b. name_longest kind f r c cs (sort_of-starts c s) (e ∙ sym whole) b;
      };
    }

-- an underscore
pub under_all : (front : List ℕ) → Spells kinds.Under front → (list_all is_xid_continue front ≡ true) × (2 ≤ length front)
under_all front s =
    let goes : is_xid_continue 95 ≡ true = is_xid_continue-ascii 95 (lit< tt) in
    (ap (list_all is_xid_continue) s.1 ∙ and_from (is_xid_continue 95) (list_all is_xid_continue s.0) goes s.3, omega (arith, ap length s.1, some_length s.0 s.2))

under_longest : (kind : Kind) (front rest : List ℕ) (c : ℕ) (cs : List ℕ) → sort_of c ≡ line → front ++ rest ≡ c ∷ cs → Begins kind front rest → (length front ≤ length (run is_xid_continue (c ∷ cs))) × (2 ≤ length front)
under_longest kinds.Under front rest c cs s e b =
    let h = under_all front b.spelled in
    (subst (λ l. length front ≤ length (run is_xid_continue l)) e (front_le_run is_xid_continue front rest h.0), h.1)
under_longest kinds.Name front rest c cs s e b = let t = begins_sort kinds.Name front rest c cs e b in cc
under_longest (kinds.Word w) front rest c cs s e b = let t = begins_sort (kinds.Word w) front rest c cs e b in cc
under_longest (kinds.Number n) front rest c cs s e b = let t = begins_sort (kinds.Number n) front rest c cs e b in cc
under_longest kinds.Text front rest c cs s e b = let t = begins_sort kinds.Text front rest c cs e b in cc
under_longest (kinds.Mark m) front rest c cs s e b = let t = begins_sort (kinds.Mark m) front rest c cs e b in cc
under_longest kinds.Separator front rest c cs s e b = let t = begins_sort kinds.Separator front rest c cs e b in cc

-- one byte is no more than an underscore
line_alone : byte_len (95 ∷ []) ≡ 1
unfolding byte_len
line_alone = ap length (ascii_encodes (95 ∷ []) refl)

under_told : (place c : ℕ) (cs : List ℕ) → c ≡ 95 → Tells place c cs (under_at place (c ∷ cs))
unfolding under_at
under_told place c cs at =
    let goes : is_xid_continue c ≡ true = ap is_xid_continue at ∙ is_xid_continue-ascii 95 (lit< tt) in
    let sort : sort_of c ≡ line = ap sort_of at ∙ sort_of-ascii 95 (lit< tt) in
    let front : run is_xid_continue (c ∷ cs) ≡ c ∷ run is_xid_continue cs = run-yes is_xid_continue c cs goes in
    let whole = run-behind is_xid_continue (c ∷ cs) in
    cond_both (nat_lt 1 (byte_len (run is_xid_continue (c ∷ cs)))) (Ok (kinds.Under, behind is_xid_continue (c ∷ cs))) (Err (faults.BadChar place)) (Tells place c cs)
    (λ long. record {
      front = run is_xid_continue (c ∷ cs);
      whole = whole;
      taken = record {
        begins = record {
          spelled = (
            run is_xid_continue cs,
            front ∙ ap (λ x. x ∷ run is_xid_continue cs) at,
            (λ none. let l : byte_len (run is_xid_continue (c ∷ cs)) ≡ byte_len (95 ∷ []) = ap byte_len (front ∙ ap (λ x. x ∷ run is_xid_continue cs) at ∙ ap (λ t. 95 ∷ t) none) in
                omega (arith, l, line_alone, ltb-true 1 (byte_len (run is_xid_continue (c ∷ cs))) long)),
            run-all is_xid_continue cs,
          );
          may_end = tt;
        };
        longest = λ kind f r e b. (under_longest kind f r c cs sort (e ∙ sym whole) b).0;
      };
    })
    (λ short. (
      (λ kind f r e b.
          let h = under_longest kind f r c cs sort e b in
          omega (arith, h.0, h.1, length-le-byte_len (run is_xid_continue (c ∷ cs)), ltb-false 1 (byte_len (run is_xid_continue (c ∷ cs))) short)),
      ap (fault_of place) (sym at),
    ))

-- digits
number_exact : (n : ℕ) (front rest cs : List ℕ) → front ++ rest ≡ cs → Begins (kinds.Number n) front rest → run is_digit cs ≡ front
number_exact n front rest cs e b = ap (run is_digit) (sym e) ∙ run-exact is_digit front rest b.spelled.1 b.may_end

number_only : (kind : Kind) (front rest : List ℕ) (c : ℕ) (cs : List ℕ) → sort_of c ≡ digit → front ++ rest ≡ c ∷ cs → Begins kind front rest
    → (run is_digit (c ∷ cs) ≡ front) × (digits_value 10 front < 2 ^ 63)
number_only (kinds.Number n) front rest c cs s e b = (number_exact n front rest (c ∷ cs) e b, omega (arith, b.spelled.2, b.spelled.3))
number_only kinds.Name front rest c cs s e b = let t = begins_sort kinds.Name front rest c cs e b in cc
number_only (kinds.Word w) front rest c cs s e b = let t = begins_sort (kinds.Word w) front rest c cs e b in cc
number_only kinds.Under front rest c cs s e b = let t = begins_sort kinds.Under front rest c cs e b in cc
number_only kinds.Text front rest c cs s e b = let t = begins_sort kinds.Text front rest c cs e b in cc
number_only (kinds.Mark m) front rest c cs s e b = let t = begins_sort (kinds.Mark m) front rest c cs e b in cc
number_only kinds.Separator front rest c cs s e b = let t = begins_sort kinds.Separator front rest c cs e b in cc

number_told : (place c : ℕ) (cs : List ℕ) → is_digit c ≡ true → Tells place c cs (number_at place (c ∷ cs))
unfolding number_at
number_told place c cs d =
    let ds : List ℕ = run is_digit cs in
    let rest : List ℕ = behind is_digit (c ∷ cs) in
    let front : run is_digit (c ∷ cs) ≡ c ∷ ds = run-yes is_digit c cs d in
    let whole : c ∷ cs ≡ (c ∷ ds) ++ rest = run-behind is_digit (c ∷ cs) ∙ ap (λ l. l ++ rest) front in
    let sort : sort_of c ≡ digit = sort_of-digit c d in
    let Told : List ℕ → Type 0 = λ l. Tells place c cs (number_or_fault place (number_of l) rest) in
    subst Told (sym front) (cond_both (nat_lt (digits_value 10 (c ∷ ds)) (2 ^ 63)) (Some (digits_value 10 (c ∷ ds))) None (λ o. Tells place c cs (number_or_fault place o rest))
    (λ small. record {
      front = c ∷ ds;
      whole = whole;
      taken = record {
        begins = record {
          spelled = ((λ e. cc), and_from (is_digit c) (list_all is_digit ds) d (run-all is_digit cs), refl, ltb-true (digits_value 10 (c ∷ ds)) (2 ^ 63) small);
          may_end = behind-stops is_digit (c ∷ cs);
        };
        longest = λ kind f r e b. let h = number_only kind f r c cs sort (e ∙ sym whole) b in omega (arith, ap length (sym h.0 ∙ front));
      };
    })
    (λ wide. (
      (λ kind f r e b.
          let h = number_only kind f r c cs sort e b in
          let v : digits_value 10 f ≡ digits_value 10 (c ∷ ds) = ap (digits_value 10) (sym h.0 ∙ front) in
          omega (arith, h.1, v, ltb-false (digits_value 10 (c ∷ ds)) (2 ^ 63) wide)),
      sym (cond-true (is_digit c) (faults.WideNumber place) (cond (c == 34) (faults.OpenText place) (faults.BadChar place)) d),
    )))

-- a double quote
text_only : (kind : Kind) (front rest : List ℕ) (c : ℕ) (cs : List ℕ) → sort_of c ≡ quote → front ++ rest ≡ c ∷ cs → Begins kind front rest → strip (34 ∷ []) (behind is_in_text cs) ≡ Some rest
text_only kinds.Text front rest c cs s e b =
    let inside : List ℕ = b.spelled.0 in
    let after : (34 ∷ (inside ++ 34 ∷ [])) ++ rest ≡ c ∷ cs = ap (λ l. l ++ rest) (sym b.spelled.1) ∙ e in
    let tail : (inside ++ 34 ∷ []) ++ rest ≡ cs = cc in
    let split : inside ++ (34 ∷ rest) ≡ cs = sym (append_assoc inside (34 ∷ []) rest) ∙ tail in
    ap (λ l. strip (34 ∷ []) (behind is_in_text l)) (sym split)
    ∙ ap (strip (34 ∷ [])) (behind-exact is_in_text inside (34 ∷ rest) b.spelled.2 refl)
    ∙ strip-append (34 ∷ []) rest
text_only kinds.Name front rest c cs s e b = let t = begins_sort kinds.Name front rest c cs e b in cc
text_only (kinds.Word w) front rest c cs s e b = let t = begins_sort (kinds.Word w) front rest c cs e b in cc
text_only kinds.Under front rest c cs s e b = let t = begins_sort kinds.Under front rest c cs e b in cc
text_only (kinds.Number n) front rest c cs s e b = let t = begins_sort (kinds.Number n) front rest c cs e b in cc
text_only (kinds.Mark m) front rest c cs s e b = let t = begins_sort (kinds.Mark m) front rest c cs e b in cc
text_only kinds.Separator front rest c cs s e b = let t = begins_sort kinds.Separator front rest c cs e b in cc

-- two cuts with one rest are of one length
same_length : (f r g s cs : List ℕ) → f ++ r ≡ cs → g ++ s ≡ cs → r ≡ s → length f ≡ length g
same_length f r g s cs e h t = omega (arith, ap length e, ap length h, ap length t, length-append f r, length-append g s)

text_found : (place c : ℕ) (cs rest : List ℕ) → c ≡ 34 → strip (34 ∷ []) (behind is_in_text cs) ≡ Some rest → IsTaken kinds.Text (c ∷ cs) rest
text_found place c cs rest at e =
    let inside : List ℕ = run is_in_text cs in
    let sort : sort_of c ≡ quote = ap sort_of at ∙ sort_of-ascii 34 (lit< tt) in
    let end : behind is_in_text cs ≡ (34 ∷ []) ++ rest = strip-is (34 ∷ []) (behind is_in_text cs) rest e in
    let split : cs ≡ (inside ++ 34 ∷ []) ++ rest = run-behind is_in_text cs ∙ ap (λ l. inside ++ l) end ∙ sym (append_assoc inside (34 ∷ []) rest) in
    let whole : c ∷ cs ≡ (34 ∷ (inside ++ 34 ∷ [])) ++ rest = ap (λ x. x ∷ cs) at ∙ ap (λ l. 34 ∷ l) split in
    record {
      front = 34 ∷ (inside ++ 34 ∷ []);
      whole = whole;
      taken = record {
        begins = record { spelled = (inside, refl, run-all is_in_text cs); may_end = tt };
        longest = λ kind f r g b.
            let here : f ++ r ≡ c ∷ cs = g ∙ sym whole in
            let t = text_only kind f r c cs sort here b in
            let one : r ≡ rest = cc in
            omega (arith, same_length f r (34 ∷ (inside ++ 34 ∷ [])) rest (c ∷ cs) here (sym whole) one);
      };
    }

text_closed : (place c : ℕ) (cs : List ℕ) → c ≡ 34 → (o : Option (List ℕ)) → strip (34 ∷ []) (behind is_in_text cs) ≡ o → Tells place c cs (text_or_fault place o)
text_closed place c cs at (Some rest) e = text_found place c cs rest at e
text_closed place c cs at None e = (
  (λ kind f r g b. let t = text_only kind f r c cs (ap sort_of at ∙ sort_of-ascii 34 (lit< tt)) g b in cc),
  ap (fault_of place) (sym at),
)

text_told : (place c : ℕ) (cs : List ℕ) → c ≡ 34 → Tells place c cs (text_at place cs)
unfolding text_at
text_told place c cs at = text_closed place c cs at (strip (34 ∷ []) (behind is_in_text cs)) refl

-- the separator and the marks
hyphens_ascii : (hs : List ℕ) → list_all is_hyphen hs ≡ true → list_all is_ascii_char hs ≡ true
hyphens_ascii [] e = refl
hyphens_ascii (h ∷ hs) e =
    let p = and_parts (is_hyphen h) (list_all is_hyphen hs) e in
    and_from (is_ascii_char h) (list_all is_ascii_char hs) (ap is_ascii_char (eqb-true h 45 p.0)) (hyphens_ascii hs p.1)

hyphens_length : (hs : List ℕ) → list_all is_hyphen hs ≡ true → byte_len hs ≡ length hs
unfolding byte_len
hyphens_length hs e = ap length (ascii_encodes hs (hyphens_ascii hs e))

-- what follows a separator that begins with c
abbrev separator_of : ℕ → List ℕ → Option (List ℕ)
separator_of c cs = cond (c == 58) (separator_end cs) None

separator_ends : (front rest : List ℕ) (c : ℕ) (cs : List ℕ) → front ++ rest ≡ c ∷ cs → Spells kinds.Separator front → separator_of c cs ≡ Some rest
unfolding separator_end
separator_ends front rest c cs e s =
    let hs : List ℕ = s.0 in
    let after : (58 ∷ (hs ++ 58 ∷ [])) ++ rest ≡ c ∷ cs = ap (λ l. l ++ rest) (sym s.1) ∙ e in
    let at : 58 ≡ c = cc in
    let tail : (hs ++ 58 ∷ []) ++ rest ≡ cs = cc in
    let split : hs ++ (58 ∷ rest) ≡ cs = sym (append_assoc hs (58 ∷ []) rest) ∙ tail in
    let ran : run is_hyphen cs ≡ hs = ap (run is_hyphen) (sym split) ∙ run-exact is_hyphen hs (58 ∷ rest) s.2 refl in
    let left : behind is_hyphen cs ≡ 58 ∷ rest = ap (behind is_hyphen) (sym split) ∙ behind-exact is_hyphen hs (58 ∷ rest) s.2 refl in
    let long : nat_lt (byte_len (run is_hyphen cs)) 3 ≡ false = le-ltb (byte_len (run is_hyphen cs)) 3 (omega (arith, ap byte_len ran, hyphens_length hs s.2, s.3)) in
    cond-true (c == 58) (separator_end cs) None (eq-eqb c 58 (sym at))
    ∙ cond-false (nat_lt (byte_len (run is_hyphen cs)) 3) None (strip (58 ∷ []) (behind is_hyphen cs)) long
    ∙ ap (strip (58 ∷ [])) left ∙ strip-append (58 ∷ []) rest

taken_first : {A : Type 0} (b : Bool) (o : Option A) (x : A) → cond b o None ≡ Some x → (b ≡ true) × (o ≡ Some x)
taken_first true o x e = (refl, e)
taken_first false o x e = cc

taken_second : {A : Type 0} (b : Bool) (o : Option A) (x : A) → cond b None o ≡ Some x → (b ≡ false) × (o ≡ Some x)
taken_second true o x e = cc
taken_second false o x e = (refl, e)

-- the parts of a separator that was found
separator_parts : (c : ℕ) (cs rest : List ℕ) → separator_of c cs ≡ Some rest → (c ≡ 58) × (3 ≤ length (run is_hyphen cs)) × (cs ≡ (run is_hyphen cs ++ 58 ∷ []) ++ rest)
unfolding separator_end
separator_parts c cs rest e =
    let a = taken_first (c == 58) (separator_end cs) rest e in
    let b = taken_second (nat_lt (byte_len (run is_hyphen cs)) 3) (strip (58 ∷ []) (behind is_hyphen cs)) rest a.1 in
    let end : behind is_hyphen cs ≡ (58 ∷ []) ++ rest = strip-is (58 ∷ []) (behind is_hyphen cs) rest b.1 in (
      eqb-true c 58 a.0,
      omega (arith, ltb-false (byte_len (run is_hyphen cs)) 3 b.0, hyphens_length (run is_hyphen cs) (run-all is_hyphen cs)),
      run-behind is_hyphen cs ∙ ap (λ l. run is_hyphen cs ++ l) end ∙ sym (append_assoc (run is_hyphen cs) (58 ∷ []) rest),
    )

symbol_kinds : (kind : Kind) (front rest : List ℕ) (c : ℕ) (cs : List ℕ) → sort_of c ≡ symbol → front ++ rest ≡ c ∷ cs → Begins kind front rest
    → (separator_of c cs ≡ Some rest) ⊎ ((m : Mark) × (front ≡ mark_text m) × (strip (mark_text m) (c ∷ cs) ≡ Some rest))
symbol_kinds kinds.Separator front rest c cs s e b = inl (separator_ends front rest c cs e b.spelled)
symbol_kinds (kinds.Mark m) front rest c cs s e b =
    inr (m, b.spelled, ap (strip (mark_text m)) (sym e ∙ ap (λ l. l ++ rest) b.spelled) ∙ strip-append (mark_text m) rest)
symbol_kinds kinds.Name front rest c cs s e b = let t = begins_sort kinds.Name front rest c cs e b in cc
symbol_kinds (kinds.Word w) front rest c cs s e b = let t = begins_sort (kinds.Word w) front rest c cs e b in cc
symbol_kinds kinds.Under front rest c cs s e b = let t = begins_sort kinds.Under front rest c cs e b in cc
symbol_kinds (kinds.Number n) front rest c cs s e b = let t = begins_sort (kinds.Number n) front rest c cs e b in cc
symbol_kinds kinds.Text front rest c cs s e b = let t = begins_sort kinds.Text front rest c cs e b in cc

separator_found : (c : ℕ) (cs rest : List ℕ) → sort_of c ≡ symbol → separator_of c cs ≡ Some rest → IsTaken kinds.Separator (c ∷ cs) rest
separator_found c cs rest sort e =
    let p = separator_parts c cs rest e in
    let hs : List ℕ = run is_hyphen cs in
    let front : List ℕ = 58 ∷ (hs ++ 58 ∷ []) in
    let whole : c ∷ cs ≡ front ++ rest = ap (λ x. x ∷ cs) p.0 ∙ ap (λ l. 58 ∷ l) p.2 in
    record {
      front = front;
      whole = whole;
      taken = record {
        begins = record { spelled = (hs, refl, run-all is_hyphen cs, p.1); may_end = tt };
        longest = λ kind f r g b.
            let here : f ++ r ≡ c ∷ cs = g ∙ sym whole in
            elim (symbol_kinds kind f r c cs sort here b) [
              | inl t ↦ let one : r ≡ rest = cc in omega (arith, same_length f r front rest (c ∷ cs) here (sym whole) one)
              | inr t ↦ omega (arith, ap length t.1, mark_short t.0, p.1, length-append hs (58 ∷ []))
            ];
      };
    }

mark_found : (c : ℕ) (cs rest : List ℕ) (m : Mark) → sort_of c ≡ symbol → separator_of c cs ≡ None → mark_at (c ∷ cs) ≡ Some (m, rest) → IsTaken (kinds.Mark m) (c ∷ cs) rest
mark_found c cs rest m sort none e =
    let found = mark_at-found (c ∷ cs) rest m e in
    let whole : c ∷ cs ≡ mark_text m ++ rest = strip-is (mark_text m) (c ∷ cs) rest found.0 in
    record {
      front = mark_text m;
      whole = whole;
      taken = record {
        begins = record { spelled = refl; may_end = tt };
        longest = λ kind f r g b.
            elim (symbol_kinds kind f r c cs sort (g ∙ sym whole) b) [
              | inl t ↦ cc
              | inr t ↦ omega (arith, ap length t.1, found.1 t.0 r t.2)
            ];
      };
    }

symbol_separated : (place c : ℕ) (cs : List ℕ) → sort_of c ≡ symbol → is_digit c ≡ false → (c == 34) ≡ false
    → (s : Option (List ℕ)) → separator_of c cs ≡ s → (o : Option (Mark × List ℕ)) → mark_at (c ∷ cs) ≡ o → Tells place c cs (separator_or s (mark_or_fault place o))
symbol_separated place c cs sort d q (Some rest) e o f = separator_found c cs rest sort e
symbol_separated place c cs sort d q None e (Some (m, rest)) f = mark_found c cs rest m sort e f
symbol_separated place c cs sort d q None e None f = (
  (λ kind front r g b. elim (symbol_kinds kind front r c cs sort g b) [
    | inl t ↦ cc
    | inr t ↦ mark_at-none (c ∷ cs) r t.0 f t.2
  ]),
  sym (cond-false (is_digit c) (faults.WideNumber place) (cond (c == 34) (faults.OpenText place) (faults.BadChar place)) d ∙ cond-false (c == 34) (faults.OpenText place) (faults.BadChar place) q),
)

symbol_told : (place c : ℕ) (cs : List ℕ) → sort_of c ≡ symbol → is_digit c ≡ false → (c == 34) ≡ false → Tells place c cs (symbol_at place c cs (c ∷ cs))
unfolding symbol_at
symbol_told place c cs sort d q = symbol_separated place c cs sort d q (separator_of c cs) refl (mark_at (c ∷ cs)) refl

other_sort : (c : ℕ) → is_blank c ≡ false → is_xid_start c ≡ false → (c == 95) ≡ false → is_digit c ≡ false → (c == 34) ≡ false → sort_of c ≡ symbol
unfolding sort_of
other_sort c b s u d q =
    ap (λ x. sort_from x (is_xid_start c) (c == 95) (is_digit c) (c == 34)) b
    ∙ ap (λ x. sort_from false x (c == 95) (is_digit c) (c == 34)) s
    ∙ ap (λ x. sort_from false false x (is_digit c) (c == 34)) u
    ∙ ap (λ x. sort_from false false false x (c == 34)) d
    ∙ ap (λ x. sort_from false false false false x) q

pub token_told : (place c : ℕ) (cs : List ℕ) → is_blank c ≡ false → Tells place c cs (token_at place (c ∷ cs))
unfolding token_at
token_told place c cs b =
    cond_both (is_xid_start c) (Ok (name_at (c ∷ cs))) (cond (c == 95) (under_at place (c ∷ cs)) (cond (is_digit c) (number_at place (c ∷ cs)) (cond (c == 34) (text_at place cs) (symbol_at place c cs (c ∷ cs))))) (Tells place c cs)
    (λ starts. name_told place c cs starts)
    (λ s. cond_both (c == 95) (under_at place (c ∷ cs)) (cond (is_digit c) (number_at place (c ∷ cs)) (cond (c == 34) (text_at place cs) (symbol_at place c cs (c ∷ cs)))) (Tells place c cs)
    (λ at. under_told place c cs (eqb-true c 95 at))
    (λ u. cond_both (is_digit c) (number_at place (c ∷ cs)) (cond (c == 34) (text_at place cs) (symbol_at place c cs (c ∷ cs))) (Tells place c cs)
    (λ d. number_told place c cs d)
    (λ d. cond_both (c == 34) (text_at place cs) (symbol_at place c cs (c ∷ cs)) (Tells place c cs)
    (λ at. text_told place c cs (eqb-true c 34 at))
    (λ q. symbol_told place c cs (other_sort c b s u d q) d q))))
