-- At most one row of pieces makes a text, so at most one outcome is right.
use Rattle.std.proofs.Common.{◌≡◌, ◌≢◌, inl, inr, ℕ, ◌≤◌, List, [], ◌∷◌, ◌++◌, length, refl, sym, ap, ◌∙◌, subst, arith, append_assoc, length-append}
use Rattle.std.specs.Prelude.{Option, Some, None, Result, Ok, Err, codes}
use Rattle.std.specs.Str.{chars}
use Rattle.std.specs.Str.Parse.{digits_value}
use Rattle.std.proofs.lemmas.List.{append-nil}
use Rattle.og_lex.specs.declared.token.Kind.{Kind}
use Rattle.og_lex.specs.declared.token.Kind.TheVariants as kinds
use Rattle.og_lex.specs.declared.token.Word.{Word}
use Rattle.og_lex.specs.declared.token.Mark.{Mark}
use Rattle.og_lex.specs.declared.token.Token.{Token}
use Rattle.og_lex.specs.declared.fault.LexFault.{LexFault}
use Rattle.og_lex.specs.declared.fault.LexFault.TheVariants as faults
use Rattle.og_lex.specs.Characters.{is_blank, is_in_comment, run, byte_len}
use Rattle.og_lex.specs.Tables.{word_text}
use Rattle.og_lex.specs.LeftToRight.{kind_of, word_of}
use Rattle.og_lex.specs.Spelling.{Spells, IsTokenAt, IsBlank, IsComment, Stands, Piece, characters_of, AllStand, tokens_of, NothingStands, fault_of, FaultAt, Lexed}
use Rattle.og_lex.proofs.CharacterRuns.{run-exact}
use Rattle.og_lex.proofs.FirstCharacter.{Sort, space, letter, line, digit, quote, symbol, kind_sort, sort_of-blank, spelled_sort, spelled_some}
use Rattle.og_lex.proofs.TokenAt.{begins_sort}
use Rattle.og_lex.proofs.TableLookups.{word_of-text, word_of-is, mark_short, named, named-text, named-is}

-- the one kind of a sort that these characters spell
abbrev marked_kind : Option Mark → Kind
marked_kind None = kinds.Separator
marked_kind (Some m) = kinds.Mark m

abbrev kind_from : Sort → List ℕ → Kind
kind_from space front = kinds.Name
kind_from letter front = kind_of (word_of front)
kind_from line front = kinds.Under
kind_from digit front = kinds.Number (digits_value 10 front)
kind_from quote front = kinds.Text
kind_from symbol front = marked_kind (named front)

no_word : (front : List ℕ) → ((w : Word) → front ≢ word_text w) → (o : Option Word) → word_of front ≡ o → o ≡ None
no_word front n None e = refl
no_word front n (Some w) e = absurd (n w (word_of-is front w e))

no_mark : (front : List ℕ) → 4 ≤ length front → (o : Option Mark) → named front ≡ o → o ≡ None
no_mark front l None e = refl
no_mark front l (Some m) e = absurd (omega (arith, mark_short m, ap length (named-is front m e)))

kind_from-spelled : (kind : Kind) (front : List ℕ) → Spells kind front → kind ≡ kind_from (kind_sort kind) front
kind_from-spelled kinds.Name front s = sym (ap kind_of (no_word front s.1 (word_of front) refl))
kind_from-spelled kinds.Under front s = refl
kind_from-spelled (kinds.Number n) front s = ap kinds.Number (sym s.2)
kind_from-spelled kinds.Text front s = refl
kind_from-spelled (kinds.Word w) front s = sym (ap kind_of (ap word_of s ∙ word_of-text w))
kind_from-spelled (kinds.Mark m) front s = sym (ap marked_kind (ap named s ∙ named-text m))
kind_from-spelled kinds.Separator front s =
    sym (ap marked_kind (no_mark front (omega (arith, ap length s.1, length-append s.0 (58 ∷ []), s.3)) (named front) refl))

same_kind : (k j : Kind) (front : List ℕ) → Spells k front → Spells j front → k ≡ j
same_kind k j [] s t = absurd (spelled_some k [] s refl)
same_kind k j (c ∷ front) s t =
    let sorts : kind_sort k ≡ kind_sort j = sym (spelled_sort k c front s) ∙ spelled_sort j c front t in
    kind_from-spelled k (c ∷ front) s ∙ ap (λ x. kind_from x (c ∷ front)) sorts ∙ sym (kind_from-spelled j (c ∷ front) t)

-- two cuts of one list at one place
same_cut : (f g r s : List ℕ) → f ++ r ≡ g ++ s → length f ≡ length g → (f ≡ g) × (r ≡ s)
same_cut [] [] r s e l = (refl, e)
same_cut [] (d ∷ g) r s e l = absurd (omega arith)
same_cut (c ∷ f) [] r s e l = absurd (omega arith)
same_cut (c ∷ f) (d ∷ g) r s e l =
    let tail : f ++ r ≡ g ++ s = cc in
    let m : length f ≡ length g = omega arith in
    let more = same_cut f g r s tail m in
    let h : c ≡ d = cc in let k = more.0 in
    (cc, more.1)

-- two pieces at one place are one
pub record AreOne (what that : Option Kind) (f g r s : List ℕ) : Type 0 where
  pub whats : what ≡ that
  pub fronts : f ≡ g
  pub rests : r ≡ s

tokens_one : (k j : Kind) (f g r s : List ℕ) → f ++ r ≡ g ++ s → IsTokenAt k f r → IsTokenAt j g s → AreOne (Some k) (Some j) f g r s
tokens_one k j f g r s e a b =
    let long = a.longest j g s (sym e) b.begins in
    let short = b.longest k f r e a.begins in
    let cut = same_cut f g r s e (omega arith) in
    let here : Spells j f = subst (Spells j) (sym cut.0) b.begins.spelled in
    record { whats = ap Some (same_kind k j f a.begins.spelled here); fronts = cut.0; rests = cut.1 }

blanks_one : (f g r s : List ℕ) → f ++ r ≡ g ++ s → IsBlank f → IsBlank g → AreOne None None f g r s
blanks_one f g r s e a b =
    let cut = same_cut f g r s e (omega (arith, ap length a.1, ap length b.1)) in
    record { whats = refl; fronts = cut.0; rests = cut.1 }

comments_one : (f g r s : List ℕ) → f ++ r ≡ g ++ s → IsComment f r → IsComment g s → AreOne None None f g r s
comments_one f g r s e a b =
    let left : codes "//" ++ (a.0 ++ r) ≡ codes "//" ++ (b.0 ++ s) = ap (λ l. l ++ r) (sym a.1) ∙ e ∙ ap (λ l. l ++ s) b.1 in
    let inner : a.0 ++ r ≡ b.0 ++ s = cc in
    let same : a.0 ≡ b.0 = sym (run-exact is_in_comment a.0 r a.2 a.3) ∙ ap (run is_in_comment) inner ∙ run-exact is_in_comment b.0 s b.2 b.3 in
    let fronts : f ≡ g = a.1 ∙ ap (λ l. codes "//" ++ l) same ∙ sym b.1 in
    let cut = same_cut f g r s e (ap length fronts) in
    record { whats = refl; fronts = fronts; rests = cut.1 }

blank_comment : (f g r s : List ℕ) → f ++ r ≡ g ++ s → IsBlank f → IsComment g s → ⊥
blank_comment f g r s e a b =
    let both : a.0 ∷ r ≡ 47 ∷ (47 ∷ (b.0 ++ s)) = ap (λ l. l ++ r) (sym a.1) ∙ e ∙ ap (λ l. l ++ s) b.1 in
    let at : a.0 ≡ 47 = cc in
    let f = ap is_blank at in let g = a.2 in cc

no_space : (k : Kind) → kind_sort k ≡ space → ⊥
no_space kinds.Name e = cc
no_space kinds.Under e = cc
no_space (kinds.Number n) e = cc
no_space kinds.Text e = cc
no_space (kinds.Word w) e = cc
no_space (kinds.Mark m) e = cc
no_space kinds.Separator e = cc

blank_token : (k : Kind) (f g r s : List ℕ) → f ++ r ≡ g ++ s → IsBlank f → IsTokenAt k g s → ⊥
blank_token k f g r s e a b =
    let here : g ++ s ≡ a.0 ∷ r = sym e ∙ ap (λ l. l ++ r) a.1 in
    no_space k (sym (begins_sort k g s a.0 r here b.begins) ∙ sort_of-blank a.0 a.2)

comment_token : (f g r s : List ℕ) → f ++ r ≡ g ++ s → IsComment f r → ((after : List ℕ) → g ++ s ≢ codes "//" ++ after) → ⊥
comment_token f g r s e a n = n (a.0 ++ r) (sym e ∙ ap (λ l. l ++ r) a.1)

one_piece : (what that : Option Kind) (f g r s : List ℕ) → f ++ r ≡ g ++ s → Stands what f r → Stands that g s → AreOne what that f g r s
one_piece (Some k) (Some j) f g r s e a b = tokens_one k j f g r s e a.0 b.0
one_piece None None f g r s e (inl a) (inl b) = blanks_one f g r s e a b
one_piece None None f g r s e (inr a) (inr b) = comments_one f g r s e a b
one_piece None None f g r s e (inl a) (inr b) = absurd (blank_comment f g r s e a b)
one_piece None None f g r s e (inr a) (inl b) = absurd (blank_comment g f s r (sym e) b a)
one_piece None (Some j) f g r s e (inl a) b = absurd (blank_token j f g r s e a b.0)
one_piece None (Some j) f g r s e (inr a) b = absurd (comment_token f g r s e a b.1)
one_piece (Some k) None f g r s e a (inl b) = absurd (blank_token k g f s r (sym e) b a.0)
one_piece (Some k) None f g r s e a (inr b) = absurd (comment_token g f s r (sym e) b a.1)

-- each piece has a character
pub stands_some : (what : Option Kind) (front rest : List ℕ) → Stands what front rest → front ≢ []
stands_some None front rest (inl a) e = let h = a.1 in cc
stands_some None front rest (inr a) e = let h = a.1 in cc
stands_some (Some k) front rest a e = spelled_some k front a.0.begins.spelled e

nothing_left : NothingStands []
nothing_left what [] rest e s = stands_some what [] rest s refl
nothing_left what (c ∷ front) rest e s = cc

same_piece : (p q : Piece) → p.what ≡ q.what → p.front ≡ q.front → p ≡ q
same_piece p q e f =
    let made : Option Kind → List ℕ → Piece = λ w l. record { what = w; front = l } in
    ap (λ w. made w p.front) e ∙ ap (made q.what) f

one_row : (ps qs : List Piece) (r s : List ℕ) → AllStand ps r → AllStand qs s → characters_of ps ++ r ≡ characters_of qs ++ s → NothingStands r → NothingStands s → (ps ≡ qs) × (r ≡ s)
one_row [] [] r s a b e n m = (refl, e)
one_row [] (q ∷ qs) r s a b e n m = absurd (n q.what q.front (characters_of qs ++ s) (sym (e ∙ append_assoc q.front (characters_of qs) s)) b.0)
one_row (p ∷ ps) [] r s a b e n m = absurd (m p.what p.front (characters_of ps ++ r) (sym (append_assoc p.front (characters_of ps) r) ∙ e) a.0)
one_row (p ∷ ps) (q ∷ qs) r s a b e n m =
    let split : p.front ++ (characters_of ps ++ r) ≡ q.front ++ (characters_of qs ++ s) = sym (append_assoc p.front (characters_of ps) r) ∙ e ∙ append_assoc q.front (characters_of qs) s in
    let one = one_piece p.what q.what p.front q.front (characters_of ps ++ r) (characters_of qs ++ s) split a.0 b.0 in
    let more = one_row ps qs r s a.1 b.1 one.rests n m in
    let here = same_piece p q one.whats one.fronts in
    let there = more.0 in
    (cc, more.1)

-- what a row of pieces, and what stands behind it, says of a text
abbrev outcome_of : List Piece → List ℕ → Result (List Token) LexFault
outcome_of ps [] = Ok (tokens_of 0 ps)
outcome_of ps (c ∷ cs) = Err (fault_of (byte_len (characters_of ps)) c)

record IsOutcome (text : List ℕ) (r : Result (List Token) LexFault) : Type 0 where
  pieces : List Piece
  rest : List ℕ
  whole : chars text ≡ characters_of pieces ++ rest
  each : AllStand pieces rest
  nothing : NothingStands rest
  is : r ≡ outcome_of pieces rest

fault_outcome : (text : List ℕ) (fault : LexFault) (ps : List Piece) (rest : List ℕ) → chars text ≡ characters_of ps ++ rest → AllStand ps rest → FaultAt (byte_len (characters_of ps)) rest fault → IsOutcome text (Err fault)
fault_outcome text fault ps [] w e c = absurd c
fault_outcome text fault ps (x ∷ rest) w e c = record { pieces = ps; rest = x ∷ rest; whole = w; each = e; nothing = c.0; is = ap Err c.1 }

outcome_from : (text : List ℕ) (r : Result (List Token) LexFault) → Lexed text r → r ≢ Err faults.Memory → IsOutcome text r
outcome_from text (Ok ts) l n = record { pieces = l.pieces; rest = []; whole = l.whole ∙ sym (append-nil (characters_of l.pieces)); each = l.each; nothing = nothing_left; is = ap Ok l.tokens }
outcome_from text (Err faults.Memory) l n = absurd (n refl)
outcome_from text (Err (faults.BadChar p)) l n = fault_outcome text (faults.BadChar p) l.pieces l.rest l.whole l.each l.cause
outcome_from text (Err (faults.OpenText p)) l n = fault_outcome text (faults.OpenText p) l.pieces l.rest l.whole l.each l.cause
outcome_from text (Err (faults.WideNumber p)) l n = fault_outcome text (faults.WideNumber p) l.pieces l.rest l.whole l.each l.cause

pub one_lexing : (text : List ℕ) (r s : Result (List Token) LexFault) → Lexed text r → Lexed text s → r ≢ Err faults.Memory → s ≢ Err faults.Memory → r ≡ s
one_lexing text r s l m n o =
    let a = outcome_from text r l n in
    let b = outcome_from text s m o in
    let one = one_row a.pieces b.pieces a.rest b.rest a.each b.each (sym a.whole ∙ b.whole) a.nothing b.nothing in
    let h = one.0 in let k = one.1 in let i = a.is in let j = b.is in
    a.is ∙ ap (λ ps. outcome_of ps a.rest) one.0 ∙ ap (outcome_of b.pieces) one.1 ∙ sym b.is
