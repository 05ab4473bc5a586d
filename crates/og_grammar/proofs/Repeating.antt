-- A loop that reads items in turn: what it found, before what the rest is read as, is what all is read as.
use Rattle.std.proofs.Common.{◌≡◌, ℕ, zero, suc, true, false, List, [], ◌∷◌, ◌++◌, length, Result, Ok, Err, refl, ◌∙◌, ap, append_assoc}
use Rattle.std.proofs.lemmas.List.{append-nil}
use Rattle.og_grammar.specs.Lexeme.{Lexeme}
use Rattle.og_grammar.specs.declared.terminal.Terminal.{Terminal}
use Rattle.og_grammar.specs.declared.fault.Fault.{Fault}
use Rattle.og_grammar.specs.declared.fault.Fault.TheVariants.{Memory, Syntax}
use Rattle.og_grammar.specs.Reads.{ReadsBy}
use Rattle.og_lex.specs.declared.token.Mark.TheVariants.{Comma}
use Rattle.og_grammar.specs.declared.terminal.Terminal.TheVariants as terminals
use Rattle.og_grammar.specs.Reading.{read_place, read_behind, read_separated, read_separated_onto, read_two_or_more, read_commas_or_none, sees_any, Outcome, with_value, with_front, read_each, read_all}

none_found : {A : Type 0} (r : Outcome (List A)) → r ≡ with_front [] r
none_found (Ok (vs, rest)) = refl
none_found (Err left) = refl

-- at the start nothing is found
pub begun : {A : Type 0} (ks : List Terminal) (item : List Lexeme → Outcome A) (ts : List Lexeme) → read_all ks item ts ≡ with_front [] (read_each ks item (length ts) ts)
unfolding read_all
begun ks item ts = none_found (read_each ks item (length ts) ts)

front_of_one : {A : Type 0} (found : List A) (a : A) (r : Outcome (List A)) → with_front found (with_value (λ vs. a ∷ vs) r) ≡ with_front (found ++ a ∷ []) r
front_of_one found a (Ok (vs, rest)) = rw (append_assoc found (a ∷ []) vs) refl
front_of_one found a (Err left) = refl

-- an item was read, and added
pub goes_on : {A : Type 0} (ks : List Terminal) (item : List Lexeme → Outcome A) (n : ℕ) (all : Outcome (List A)) (found now : List A) (ts rest : List Lexeme) (a : A)
    → all ≡ with_front found (read_each ks item (suc n) ts) → sees_any ks ts ≡ true → item ts ≡ Ok (a, rest) → now ≡ found ++ a ∷ [] → all ≡ with_front now (read_each ks item n rest)
unfolding read_each
goes_on ks item n all found now ts rest a keep s is add = rw add (rw (s, is) at keep ∙ front_of_one found a (read_each ks item n rest))

-- an item could not be read
pub fails : {A : Type 0} (ks : List Terminal) (item : List Lexeme → Outcome A) (n : ℕ) (all : Outcome (List A)) (found : List A) (ts : List Lexeme) (left : ℕ)
    → all ≡ with_front found (read_each ks item (suc n) ts) → sees_any ks ts ≡ true → item ts ≡ Err left → all ≡ Err left
unfolding read_each
fails ks item n all found ts left keep s is = rw (s, is) at keep

-- no item comes next
pub stops : {A : Type 0} (ks : List Terminal) (item : List Lexeme → Outcome A) (n : ℕ) (all : Outcome (List A)) (found : List A) (ts : List Lexeme)
    → all ≡ with_front found (read_each ks item n ts) → sees_any ks ts ≡ false → all ≡ Ok (found, ts)
unfolding read_each
stops ks item zero all found ts keep s = keep ∙ ap (λ vs. Ok (vs, ts)) (append-nil found)
stops ks item (suc n) all found ts keep s = rw s at keep ∙ ap (λ vs. Ok (vs, ts)) (append-nil found)

-- as many turns were taken as there were tokens
pub ends : {A : Type 0} (ks : List Terminal) (item : List Lexeme → Outcome A) (all : Outcome (List A)) (found : List A) (ts : List Lexeme)
    → all ≡ with_front found (read_each ks item zero ts) → all ≡ Ok (found, ts)
unfolding read_each
ends ks item all found ts keep = keep ∙ ap (λ vs. Ok (vs, ts)) (append-nil found)

-- what an error of an item makes of the whole
pub fails_by : {A : Type 0} (ks : List Terminal) (item : List Lexeme → Outcome A) (n : ℕ) (old : List Lexeme) (found : List A) (ts new last : List Lexeme) (r : Result (List A) Fault) (d e : Fault) (whole : List Lexeme → Outcome (List A))
    → whole old ≡ with_front found (read_each ks item (suc n) ts) → sees_any ks ts ≡ true → ReadsBy item ts (Err e) new → r ≡ Err d → d ≡ e
    → ReadsBy whole old r last
fails_by ks item n old found ts new last r d Memory whole keep s is err same = rw (err, same) tt
fails_by ks item n old found ts new last r d (Syntax left) whole keep s is err same = rw (err, same) (fails ks item n (whole old) found ts left keep s is)

-- ---- with a token between each two

pub behind_by : {A : Type 0} (m : Terminal) (item : List Lexeme → Outcome A) (ts mid new : List Lexeme) (place : ℕ) (r : Result A Fault)
    → read_place m ts ≡ Ok (place, mid) → ReadsBy item mid r new → ReadsBy (read_behind m item) ts r new
behind_by m item ts mid new place (Ok a) is p = rw (is, p) refl
behind_by m item ts mid new place (Err Memory) is p = tt
behind_by m item ts mid new place (Err (Syntax left)) is p = rw (is, p) refl

pub no_mark_by : {A : Type 0} (m : Terminal) (item : List Lexeme → Outcome A) (ts new last : List Lexeme) (r : Result A Fault) (d e : Fault)
    → ReadsBy (read_place m) ts (Err e) new → r ≡ Err d → d ≡ e → ReadsBy (read_behind m item) ts r last
no_mark_by m item ts new last r d Memory is err same = rw (err, same) tt
no_mark_by m item ts new last r d (Syntax left) is err same = rw (err, same) (rw is refl)

-- the first item was read
pub separated_begun : {A : Type 0} (m : Terminal) (before : List A) (item : List Lexeme → Outcome A) (ts rest : List Lexeme) (a : A) (found : List A) → item ts ≡ Ok (a, rest) → found ≡ before ++ a ∷ []
    → read_separated_onto m before item ts ≡ with_front found (read_each (m ∷ []) (read_behind m item) (length rest) rest)
unfolding read_all
separated_begun {A} m before item ts rest a found is one = rw (is, one) (fronted (read_each (m ∷ []) (read_behind m item) (length rest) rest))
  where
    fronted : (r : Outcome (List A)) → with_front before (with_value (λ (v : A × List A). v.0 ∷ v.1) (with_value (λ b. (a, b)) r)) ≡ with_front (before ++ a ∷ []) r
    fronted (Ok (vs, after)) = rw (append_assoc before (a ∷ []) vs) refl
    fronted (Err left) = refl

pub first_fails_by : {A : Type 0} (m : Terminal) (before : List A) (item : List Lexeme → Outcome A) (ts new last : List Lexeme) (r : Result (List A) Fault) (d e : Fault)
    → ReadsBy item ts (Err e) new → r ≡ Err d → d ≡ e → ReadsBy (read_separated_onto m before item) ts r last
first_fails_by m before item ts new last r d Memory is err same = rw (err, same) tt
first_fails_by m before item ts new last r d (Syntax left) is err same = rw (err, same) (rw is refl)

-- behind none they are all
pub onto_none : {A : Type 0} (m : Terminal) (item : List Lexeme → Outcome A) (ts new : List Lexeme) (r : Result (List A) Fault) (none : List A) → none ≡ []
    → ReadsBy (read_separated_onto m none item) ts r new → ReadsBy (read_separated m item) ts r new
onto_none m item ts new (Ok vs) none empty is = none_found (read_separated m item ts) ∙ rw empty at is
onto_none m item ts new (Err Memory) none empty is = tt
onto_none m item ts new (Err (Syntax left)) none empty is = none_found (read_separated m item ts) ∙ rw empty at is

first_put : {A : Type 0} (a : A) (place : ℕ) (all : Outcome (List A))
    → with_value (λ (v : A × List A). v.0 ∷ v.1) (with_value (λ b. (a, b)) (with_value (λ (v : ℕ × List A). v.1) (with_value (λ b. (place, b)) all))) ≡ with_front (a ∷ []) all
first_put a place (Ok (vs, after)) = refl
first_put a place (Err left) = refl

-- two or more: the first, the comma, and the others behind the first
pub two_by : {A : Type 0} (item : List Lexeme → Outcome A) (ts mid more new : List Lexeme) (a : A) (place : ℕ) (none found : List A) (r : Result (List A) Fault)
    → item ts ≡ Ok (a, mid) → read_place (terminals.Mark Comma) mid ≡ Ok (place, more) → none ≡ [] → found ≡ none ++ a ∷ []
    → ReadsBy (read_separated_onto (terminals.Mark Comma) found item) more r new → ReadsBy (read_two_or_more item) ts r new
two_by item ts mid more new a place none found (Ok ws) is comma empty one reads =
    rw (is, comma) (first_put a place (read_separated (terminals.Mark Comma) item more) ∙ rw (one, empty) at reads)
two_by item ts mid more new a place none found (Err Memory) is comma empty one reads = tt
two_by item ts mid more new a place none found (Err (Syntax left)) is comma empty one reads =
    rw (is, comma) (first_put a place (read_separated (terminals.Mark Comma) item more) ∙ rw (one, empty) at reads)

pub two_fails_first : {A : Type 0} (item : List Lexeme → Outcome A) (ts new last : List Lexeme) (r : Result (List A) Fault) (d e : Fault)
    → ReadsBy item ts (Err e) new → r ≡ Err d → d ≡ e → ReadsBy (read_two_or_more item) ts r last
two_fails_first item ts new last r d Memory is err same = rw (err, same) tt
two_fails_first item ts new last r d (Syntax left) is err same = rw (err, same) (rw is refl)

pub two_fails_comma : {A : Type 0} (item : List Lexeme → Outcome A) (ts mid new last : List Lexeme) (a : A) (r : Result (List A) Fault) (d e : Fault)
    → item ts ≡ Ok (a, mid) → ReadsBy (read_place (terminals.Mark Comma)) mid (Err e) new → r ≡ Err d → d ≡ e → ReadsBy (read_two_or_more item) ts r last
two_fails_comma item ts mid new last a r d Memory is comma err same = rw (err, same) tt
two_fails_comma item ts mid new last a r d (Syntax left) is comma err same = rw (err, same) (rw (is, comma) refl)

pub some_by : {A : Type 0} (ks : List Terminal) (item : List Lexeme → Outcome A) (ts new : List Lexeme) (r : Result (List A) Fault)
    → sees_any ks ts ≡ true → ReadsBy (read_separated (terminals.Mark Comma) item) ts r new → ReadsBy (read_commas_or_none ks item) ts r new
some_by ks item ts new (Ok vs) s is = rw s is
some_by ks item ts new (Err Memory) s is = tt
some_by ks item ts new (Err (Syntax left)) s is = rw s is

pub none_by : {A : Type 0} (ks : List Terminal) (item : List Lexeme → Outcome A) (ts : List Lexeme) (none : List A)
    → sees_any ks ts ≡ false → none ≡ [] → read_commas_or_none ks item ts ≡ Ok (none, ts)
none_by ks item ts none s empty = rw (s, empty) refl
