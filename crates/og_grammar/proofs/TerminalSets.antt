-- Sets of terminals, and whether the next token is for one of them.
use Rattle.std.proofs.Common.{◌≡◌, Bool, true, false, not, List, [], ◌∷◌, ◌++◌, inl, inr, refl, arith}
use Rattle.std.proofs.lemmas.Bool.{and_parts, not-true, or_cases, or_left, or_right, or_from, cases_Bool}
use Rattle.std.proofs.lemmas.Bool.Decides.{nat_tests}
use Rattle.std.specs.List.{list_all}
use Rattle.og_grammar.specs.Lexeme.{Lexeme}
use Rattle.og_grammar.specs.declared.terminal.Terminal.{Terminal}
use Rattle.og_grammar.specs.Rule.{same_terminal}
use Rattle.og_grammar.specs.Reading.{has, apart, sees, sees_any}

-- two that are equal to a third are equal
pub same_terminals : (t k l : Terminal) → same_terminal t k ≡ true → same_terminal t l ≡ true → same_terminal k l ≡ true
unfolding same_terminal
same_terminals t k l e f = grind (arith, nat_tests)

pub has_seen : (ls : List Terminal) (k : Terminal) (t : Lexeme) (ts : List Lexeme) → sees k (t ∷ ts) ≡ true → sees_any ls (t ∷ ts) ≡ true → has ls k ≡ true
unfolding sees
has_seen [] k t ts e f = cc
has_seen (l ∷ ls) k t ts e f =
    elim (or_cases (sees l (t ∷ ts)) (sees_any ls (t ∷ ts)) f) [
      | inl g ↦ or_left (same_terminal k l) (has ls k) (same_terminals t.terminal k l e g)
      | inr g ↦ or_right (same_terminal k l) (has ls k) (has_seen ls k t ts e g)
    ]

pub sees_none : (ks : List Terminal) → sees_any ks [] ≡ false
unfolding sees
sees_none [] = refl
sees_none (k ∷ ks) = sees_none ks

sees_other : (ls : List Terminal) (k : Terminal) (t : Lexeme) (ts : List Lexeme) → has ls k ≡ false → sees_any ls (t ∷ ts) ≡ true → sees k (t ∷ ts) ≡ false
sees_other ls k t ts e f =
    elim (cases_Bool (sees k (t ∷ ts))) [ inl g ↦ let h = has_seen ls k t ts g f in cc | inr g ↦ g ]

-- a token of the second set is of none of the first
pub sees_apart : (ks ls : List Terminal) (ts : List Lexeme) → apart ks ls ≡ true → sees_any ls ts ≡ true → sees_any ks ts ≡ false
sees_apart [] ls ts e f = refl
sees_apart (k ∷ ks) ls [] e f = sees_none (k ∷ ks)
sees_apart (k ∷ ks) ls (t ∷ ts) e f =
    or_from (sees k (t ∷ ts)) (sees_any ks (t ∷ ts))
    (sees_other ls k t ts (not-true (has ls k) (and_parts (not (has ls k)) (apart ks ls) e).0) f)
    (sees_apart ks ls (t ∷ ts) (and_parts (not (has ls k)) (apart ks ls) e).1 f)

pub sees_left : (ks ls : List Terminal) (ts : List Lexeme) → sees_any ks ts ≡ true → sees_any (ks ++ ls) ts ≡ true
sees_left [] ls ts e = cc
sees_left (k ∷ ks) ls ts e =
    elim (or_cases (sees k ts) (sees_any ks ts) e) [
      | inl f ↦ or_left (sees k ts) (sees_any (ks ++ ls) ts) f
      | inr f ↦ or_right (sees k ts) (sees_any (ks ++ ls) ts) (sees_left ks ls ts f)
    ]

pub sees_right : (ks ls : List Terminal) (ts : List Lexeme) → sees_any ls ts ≡ true → sees_any (ks ++ ls) ts ≡ true
sees_right [] ls ts e = e
sees_right (k ∷ ks) ls ts e = or_right (sees k ts) (sees_any (ks ++ ls) ts) (sees_right ks ls ts e)

pub stops_left : (ks ls : List Terminal) (ts : List Lexeme) → sees_any (ks ++ ls) ts ≡ false → sees_any ks ts ≡ false
stops_left ks ls ts e =
    elim (cases_Bool (sees_any ks ts)) [ inl f ↦ let h = sees_left ks ls ts f in cc | inr f ↦ f ]

pub stops_right : (ks ls : List Terminal) (ts : List Lexeme) → sees_any (ks ++ ls) ts ≡ false → sees_any ls ts ≡ false
stops_right ks ls ts e =
    elim (cases_Bool (sees_any ls ts)) [ inl f ↦ let h = sees_right ks ls ts f in cc | inr f ↦ f ]

pub sees_one : (k : Terminal) (ts : List Lexeme) (b : Bool) → sees k ts ≡ b → sees_any (k ∷ []) ts ≡ b
sees_one k ts true e = or_left (sees k ts) false e
sees_one k ts false e = or_from (sees k ts) false e refl

sees_member : (ls : List Terminal) (k : Terminal) (t : Lexeme) (ts : List Lexeme) → has ls k ≡ true → sees k (t ∷ ts) ≡ true → sees_any ls (t ∷ ts) ≡ true
unfolding sees same_terminal
sees_member [] k t ts e s = cc
sees_member (l ∷ ls) k t ts e s =
    elim (or_cases (same_terminal k l) (has ls k) e) [
      | inl one ↦ let here : same_terminal t.terminal l ≡ true = grind (arith, nat_tests) in or_left (sees l (t ∷ ts)) (sees_any ls (t ∷ ts)) here
      | inr more ↦ or_right (sees l (t ∷ ts)) (sees_any ls (t ∷ ts)) (sees_member ls k t ts more s)
    ]

-- what is for none of a set is for none of what is inside it
pub sees_outside : (ks ls : List Terminal) (ts : List Lexeme) → list_all (has ls) ks ≡ true → sees_any ls ts ≡ false → sees_any ks ts ≡ false
sees_outside [] ls ts e s = refl
sees_outside (k ∷ ks) ls [] e s = sees_none (k ∷ ks)
sees_outside (k ∷ ks) ls (t ∷ ts) e s =
    let both = and_parts (has ls k) (list_all (has ls) ks) e in
    or_from (sees k (t ∷ ts)) (sees_any ks (t ∷ ts))
    (elim (cases_Bool (sees k (t ∷ ts))) [ inl seen ↦ let found = sees_member ls k t ts both.0 seen in cc | inr unseen ↦ unseen ])
    (sees_outside ks ls (t ∷ ts) both.1 s)
