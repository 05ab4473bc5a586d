-- The tables have every word and every mark, each under its own text.
use Rattle.std.proofs.Common.{◌≡◌, inl, inr, ℕ, zero, suc, ◌≤◌, Bool, true, List, [], ◌∷◌, length, refl, sym, ap, ◌∙◌, subst, arith}
use Rattle.std.specs.Prelude.{Option, Some, None, ◌&&◌, nat_le, slice_get}
use Rattle.std.specs.List.{list_all, find}
use Rattle.std.proofs.lemmas.Option.{same_Some}
use Rattle.std.proofs.lemmas.Bool.{leb-true, and_parts}
use Rattle.og_lex.specs.declared.token.Word.{Word}
use Rattle.og_lex.specs.declared.token.Word.TheVariants as words
use Rattle.og_lex.specs.declared.token.Mark.{Mark}
use Rattle.og_lex.specs.declared.token.Mark.TheVariants as marks
use Rattle.og_lex.specs.Tables.{word_text, mark_text, all_words, all_marks}
use Rattle.og_lex.specs.LeftToRight.{same, strip, word_among, word_of, or_mark, mark_among, mark_at}
use Rattle.og_lex.proofs.WordBytes.{same-true}
use Rattle.og_lex.proofs.Strip.{cond_parts}

-- each word is found under its text
pub word_of-text : (w : Word) → word_of (word_text w) ≡ Some w
unfolding word_of all_words word_text
word_of-text words.«Type» = refl
word_of-text words.Fn = refl
word_of-text words.Game = refl
word_of-text words.Block = refl
word_of-text words.Inputs = refl
word_of-text words.Feedback = refl
word_of-text words.Operation = refl
word_of-text words.Outputs = refl
word_of-text words.Returns = refl
word_of-text words.DependentDecision = refl
word_of-text words.Nature = refl
word_of-text words.ForwardFunction = refl
word_of-text words.BackwardFunction = refl
word_of-text words.Identity = refl
word_of-text words.Library = refl
word_of-text words.If = refl
word_of-text words.Then = refl
word_of-text words.Elif = refl
word_of-text words.Else = refl
word_of-text words.End = refl
word_of-text words.Table = refl
word_of-text words.And = refl
word_of-text words.Or = refl
word_of-text words.Not = refl
word_of-text words.True = refl
word_of-text words.False = refl
word_of-text words.Bool = refl
word_of-text words.Number = refl
word_of-text words.Agent = refl
word_of-text words.Ratio = refl
word_of-text words.Min = refl
word_of-text words.Max = refl
word_of-text words.Clamp = refl
word_of-text words.Strategy = refl
word_of-text words.Among = refl
word_of-text words.Branch = refl
word_of-text words.Version = refl

among_text : (ws : List Word) (name : List ℕ) (w : Word) → word_among ws name ≡ Some w → name ≡ word_text w
among_text [] name w e = cc
among_text (v ∷ ws) name w e =
    elim (cond_parts (same (word_text v) name) (Some v) (word_among ws name) (Some w) e) [
      | inl h ↦ let at = same-true (word_text v) name h.0 in cc
      | inr h ↦ among_text ws name w h.1
    ]

pub word_of-is : (name : List ℕ) (w : Word) → word_of name ≡ Some w → name ≡ word_text w
unfolding word_of
word_of-is name w e = among_text all_words name w e

-- where each mark stands in the table
pub place : (m : Mark) → (i : ℕ) × (slice_get all_marks i ≡ Some m)
unfolding all_marks
place marks.Then = (0, refl)
place marks.Beside = (1, refl)
place marks.DotDot = (2, refl)
place marks.Arrow = (3, refl)
place marks.Equal = (4, refl)
place marks.Differs = (5, refl)
place marks.AtMost = (6, refl)
place marks.AtLeast = (7, refl)
place marks.LeftBrace = (8, refl)
place marks.RightBrace = (9, refl)
place marks.LeftParen = (10, refl)
place marks.RightParen = (11, refl)
place marks.LeftBracket = (12, refl)
place marks.RightBracket = (13, refl)
place marks.Comma = (14, refl)
place marks.Semicolon = (15, refl)
place marks.Colon = (16, refl)
place marks.Dot = (17, refl)
place marks.Assign = (18, refl)
place marks.Less = (19, refl)
place marks.Greater = (20, refl)
place marks.Plus = (21, refl)
place marks.Minus = (22, refl)
place marks.Star = (23, refl)
place marks.Slash = (24, refl)

-- no mark of the list is longer than one before it
descends : List Mark → Bool
descends [] = true
descends (m ∷ ms) = list_all (λ k. nat_le (length (mark_text k)) (length (mark_text m))) ms && descends ms

marks_descend : descends all_marks ≡ true
unfolding all_marks mark_text descends
marks_descend = refl

-- the mark with the text
pub named : List ℕ → Option Mark
named text = find (λ m. same (mark_text m) text) all_marks

pub named-text : (m : Mark) → named (mark_text m) ≡ Some m
unfolding named all_marks mark_text
named-text marks.LeftBrace = refl
named-text marks.RightBrace = refl
named-text marks.LeftParen = refl
named-text marks.RightParen = refl
named-text marks.LeftBracket = refl
named-text marks.RightBracket = refl
named-text marks.Comma = refl
named-text marks.Semicolon = refl
named-text marks.Colon = refl
named-text marks.Dot = refl
named-text marks.DotDot = refl
named-text marks.Arrow = refl
named-text marks.Assign = refl
named-text marks.Equal = refl
named-text marks.Differs = refl
named-text marks.Less = refl
named-text marks.AtMost = refl
named-text marks.Greater = refl
named-text marks.AtLeast = refl
named-text marks.Plus = refl
named-text marks.Minus = refl
named-text marks.Star = refl
named-text marks.Slash = refl
named-text marks.Then = refl
named-text marks.Beside = refl

find_named : (ms : List Mark) (text : List ℕ) (m : Mark) → find (λ k. same (mark_text k) text) ms ≡ Some m → text ≡ mark_text m
find_named [] text m e = cc
find_named (k ∷ ms) text m e =
    elim (cond_parts (same (mark_text k) text) (Some k) (find (λ x. same (mark_text x) text) ms) (Some m) e) [
      | inl h ↦ let at = same-true (mark_text k) text h.0 in cc
      | inr h ↦ find_named ms text m h.1
    ]

pub named-is : (text : List ℕ) (m : Mark) → named text ≡ Some m → text ≡ mark_text m
unfolding named
named-is text m e = find_named all_marks text m e

short : (m : Mark) → nat_le (length (mark_text m)) 3 ≡ true
unfolding mark_text
short marks.LeftBrace = refl
short marks.RightBrace = refl
short marks.LeftParen = refl
short marks.RightParen = refl
short marks.LeftBracket = refl
short marks.RightBracket = refl
short marks.Comma = refl
short marks.Semicolon = refl
short marks.Colon = refl
short marks.Dot = refl
short marks.DotDot = refl
short marks.Arrow = refl
short marks.Assign = refl
short marks.Equal = refl
short marks.Differs = refl
short marks.Less = refl
short marks.AtMost = refl
short marks.Greater = refl
short marks.AtLeast = refl
short marks.Plus = refl
short marks.Minus = refl
short marks.Star = refl
short marks.Slash = refl
short marks.Then = refl
short marks.Beside = refl

pub mark_short : (m : Mark) → length (mark_text m) ≤ 3
mark_short m = leb-true (length (mark_text m)) 3 (short m)

pub all_at : (p : Mark → Bool) (ms : List Mark) (i : ℕ) (m : Mark) → list_all p ms ≡ true → slice_get ms i ≡ Some m → p m ≡ true
all_at p [] i m a e = cc
all_at p (k ∷ ms) zero m a e = let h = and_parts (p k) (list_all p ms) a in let at : k ≡ m = cc in subst (λ x. p x ≡ true) at h.0
all_at p (k ∷ ms) (suc i) m a e = all_at p ms i m (and_parts (p k) (list_all p ms) a).1 e

-- the mark that is found begins the characters, and none that does is longer
pub record IsLongest (m : Mark) (ms : List Mark) (cs rest : List ℕ) : Type 0 where
  pub begins : strip (mark_text m) cs ≡ Some rest
  pub longest : (k : Mark) (i : ℕ) (after : List ℕ) → slice_get ms i ≡ Some k → strip (mark_text k) cs ≡ Some after → length (mark_text k) ≤ length (mark_text m)

no_longer : (v : Mark) (ms : List Mark) → list_all (λ k. nat_le (length (mark_text k)) (length (mark_text v))) ms ≡ true → (k : Mark) (i : ℕ) → slice_get (v ∷ ms) i ≡ Some k → length (mark_text k) ≤ length (mark_text v)
no_longer v ms a k zero e = let at : v ≡ k = cc in subst (λ x. length (mark_text x) ≤ length (mark_text v)) at (omega arith)
no_longer v ms a k (suc i) e = leb-true (length (mark_text k)) (length (mark_text v)) (all_at (λ x. nat_le (length (mark_text x)) (length (mark_text v))) ms i k a e)

behind_other : (v : Mark) (ms : List Mark) (cs : List ℕ) (m k : Mark) (i : ℕ) (after : List ℕ) → strip (mark_text v) cs ≡ None → strip (mark_text k) cs ≡ Some after → slice_get (v ∷ ms) i ≡ Some k
    → ((j : ℕ) (rest : List ℕ) → slice_get ms j ≡ Some k → strip (mark_text k) cs ≡ Some rest → length (mark_text k) ≤ length (mark_text m)) → length (mark_text k) ≤ length (mark_text m)
behind_other v ms cs m k zero after b s e more =
    let at : v ≡ k = cc in
    let c : strip (mark_text k) cs ≡ None = subst (λ x. strip (mark_text x) cs ≡ None) at b in
    cc
behind_other v ms cs m k (suc i) after b s e more = more i after e s

found_here : (v : Mark) (ms : List Mark) (cs rest : List ℕ) (m : Mark) → list_all (λ k. nat_le (length (mark_text k)) (length (mark_text v))) ms ≡ true
    → (mark_among ms cs ≡ Some (m, rest) → IsLongest m ms cs rest)
    → (o : Option (List ℕ)) → strip (mark_text v) cs ≡ o → or_mark v o (mark_among ms cs) ≡ Some (m, rest) → IsLongest m (v ∷ ms) cs rest
found_here v ms cs rest m a more (Some r) b e =
    let pair = same_Some (v, r) (m, rest) e in
    let at : v ≡ m = ap (λ p. p.0) pair in
    let behind : r ≡ rest = ap (λ p. p.1) pair in
    record {
      begins = ap (λ k. strip (mark_text k) cs) (sym at) ∙ b ∙ ap Some behind;
      longest = λ k i after in_list s. subst (λ x. length (mark_text k) ≤ length (mark_text x)) at (no_longer v ms a k i in_list);
    }
found_here v ms cs rest m a more None b e =
    let f = more e in
    record { begins = f.begins; longest = λ k i after in_list s. behind_other v ms cs m k i after b s in_list (f.longest k) }

found_longest : (ms : List Mark) (cs rest : List ℕ) (m : Mark) → descends ms ≡ true → mark_among ms cs ≡ Some (m, rest) → IsLongest m ms cs rest
unfolding descends
found_longest [] cs rest m d e = cc
found_longest (v ∷ ms) cs rest m d e =
    let h = and_parts (list_all (λ k. nat_le (length (mark_text k)) (length (mark_text v))) ms) (descends ms) d in
    found_here v ms cs rest m h.0 (λ f. found_longest ms cs rest m h.1 f) (strip (mark_text v) cs) refl e

none_here : (v : Mark) (ms : List Mark) (cs after : List ℕ) (k : Mark) (i : ℕ) → (mark_among ms cs ≡ None → (j : ℕ) → slice_get ms j ≡ Some k → strip (mark_text k) cs ≡ Some after → ⊥)
    → (o : Option (List ℕ)) → strip (mark_text v) cs ≡ o → or_mark v o (mark_among ms cs) ≡ None → slice_get (v ∷ ms) i ≡ Some k → strip (mark_text k) cs ≡ Some after → ⊥
none_here v ms cs after k i more (Some r) s e at b = cc
none_here v ms cs after k zero more None s e at b =
    let here : v ≡ k = cc in
    let c : strip (mark_text k) cs ≡ None = subst (λ x. strip (mark_text x) cs ≡ None) here s in
    cc
none_here v ms cs after k (suc i) more None s e at b = more e i at b

none_begins : (ms : List Mark) (cs after : List ℕ) (k : Mark) (i : ℕ) → mark_among ms cs ≡ None → slice_get ms i ≡ Some k → strip (mark_text k) cs ≡ Some after → ⊥
none_begins [] cs after k i e at b = cc
none_begins (v ∷ ms) cs after k i e at b =
    none_here v ms cs after k i (λ f g. none_begins ms cs after k g f) (strip (mark_text v) cs) refl e at b

pub mark_at-found : (cs rest : List ℕ) (m : Mark) → mark_at cs ≡ Some (m, rest) → (strip (mark_text m) cs ≡ Some rest) × ((k : Mark) (after : List ℕ) → strip (mark_text k) cs ≡ Some after → length (mark_text k) ≤ length (mark_text m))
unfolding mark_at
mark_at-found cs rest m e =
    let f = found_longest all_marks cs rest m marks_descend e in
    (f.begins, λ k after b. f.longest k (place k).0 after (place k).1 b)

pub mark_at-none : (cs after : List ℕ) (k : Mark) → mark_at cs ≡ None → strip (mark_text k) cs ≡ Some after → ⊥
unfolding mark_at
mark_at-none cs after k e b = none_begins all_marks cs after k (place k).0 e (place k).1 b
