-- What is read at a place stands there, and where nothing is read nothing stands.
use Rattle.std.proofs.Common.{◌≡◌, ◌≢◌, inl, inr, ℕ, true, false, List, [], ◌∷◌, ◌++◌, refl, sym, ap, ◌∙◌, subst}
use Rattle.std.specs.Prelude.{Option, Some, None, Result, Ok, Err, codes}
use Rattle.std.proofs.lemmas.Bool.{cond_both}
use Rattle.og_lex.specs.declared.token.Kind.{Kind}
use Rattle.og_lex.specs.declared.fault.LexFault.{LexFault}
use Rattle.og_lex.specs.Characters.{is_blank, is_in_comment, run, behind}
use Rattle.og_lex.specs.LeftToRight.{Read, strip, token_at, with_kind, or_comment, piece_at}
use Rattle.og_lex.specs.Spelling.{Stands, NothingStands, FaultAt, Begins}
use Rattle.og_lex.proofs.CharacterRuns.{run-behind, behind-stops}
use Rattle.og_lex.proofs.Numbers.{run-all}
use Rattle.og_lex.proofs.Strip.{strip-is, strip-append}
use Rattle.og_lex.proofs.FirstCharacter.{spelled_some}
use Rattle.og_lex.proofs.TokenAt.{Tells, token_told}

-- Something stands at the front of the characters, and rest follows it.
pub record IsFound (what : Option Kind) (cs rest : List ℕ) : Type 0 where
  pub front : List ℕ
  pub whole : cs ≡ front ++ rest
  pub some : front ≢ []
  pub stands : Stands what front rest

abbrev pub Shows : ℕ → List ℕ → Read → Type 0
Shows place cs (Ok (what, rest)) = IsFound what cs rest
Shows place cs (Err fault) = FaultAt place cs fault

blank_shown : (c : ℕ) (cs : List ℕ) → is_blank c ≡ true → IsFound None (c ∷ cs) cs
blank_shown c cs b = record { front = c ∷ []; whole = refl; some = λ e. cc; stands = inl (c, refl, b) }

comment_shown : (cs inside : List ℕ) → strip (codes "//") cs ≡ Some inside → IsFound None cs (behind is_in_comment inside)
comment_shown cs inside e =
    let whole : cs ≡ codes "//" ++ inside = strip-is (codes "//") cs inside e in
    record {
      front = codes "//" ++ run is_in_comment inside;
      whole = whole ∙ ap (λ l. codes "//" ++ l) (run-behind is_in_comment inside);
      some = λ e. cc;
      stands = inr (run is_in_comment inside, refl, run-all is_in_comment inside, behind-stops is_in_comment inside);
    }

-- a comment stands where two slashes do
no_comment : (cs : List ℕ) → strip (codes "//") cs ≡ None → (after : List ℕ) → cs ≢ codes "//" ++ after
no_comment cs none after e = let s = strip-append (codes "//") after in let t = ap (strip (codes "//")) e in cc

nothing_stands : (c : ℕ) (cs : List ℕ) → is_blank c ≡ false → strip (codes "//") (c ∷ cs) ≡ None → ((kind : Kind) (front rest : List ℕ) → front ++ rest ≡ c ∷ cs → Begins kind front rest → ⊥) → NothingStands (c ∷ cs)
nothing_stands c cs b n none None front rest e (inl blank) =
    let one : (blank.0 ∷ []) ++ rest ≡ c ∷ cs = ap (λ l. l ++ rest) (sym blank.1) ∙ e in
    let at : blank.0 ≡ c = cc in
    let f = ap is_blank at in let g = blank.2 in cc
nothing_stands c cs b n none None front rest e (inr comment) =
    no_comment (c ∷ cs) n (comment.0 ++ rest) (sym e ∙ ap (λ l. l ++ rest) comment.1)
nothing_stands c cs b n none (Some kind) front rest e s = none kind front rest e s.0.begins

token_shown : (place c : ℕ) (cs : List ℕ) → is_blank c ≡ false → strip (codes "//") (c ∷ cs) ≡ None → (r : Result (Kind × List ℕ) LexFault) → Tells place c cs r → Shows place (c ∷ cs) (with_kind r)
token_shown place c cs b n (Ok (kind, rest)) t = record {
  front = t.front;
  whole = t.whole;
  some = spelled_some kind t.front t.taken.begins.spelled;
  stands = (t.taken, λ after e. no_comment (c ∷ cs) n after (t.whole ∙ e));
}
token_shown place c cs b n (Err fault) t = (nothing_stands c cs b n t.0, t.1)

commented : (place c : ℕ) (cs : List ℕ) → is_blank c ≡ false → (o : Option (List ℕ)) → strip (codes "//") (c ∷ cs) ≡ o → Shows place (c ∷ cs) (or_comment o (with_kind (token_at place (c ∷ cs))))
commented place c cs b (Some inside) e = comment_shown (c ∷ cs) inside e
commented place c cs b None e = token_shown place c cs b e (token_at place (c ∷ cs)) (token_told place c cs b)

pub piece_shown : (place c : ℕ) (cs : List ℕ) → Shows place (c ∷ cs) (piece_at place (c ∷ cs))
unfolding piece_at
piece_shown place c cs =
    cond_both (is_blank c) (Ok (None, cs)) (or_comment (strip (codes "//") (c ∷ cs)) (with_kind (token_at place (c ∷ cs)))) (Shows place (c ∷ cs))
    (λ b. blank_shown c cs b)
    (λ b. commented place c cs b (strip (codes "//") (c ∷ cs)) refl)

piece_none : (place : ℕ) (rest : List ℕ) (what : Option Kind) → piece_at place [] ≡ Ok (what, rest) → ⊥
unfolding piece_at
piece_none place rest what e = cc

pub piece_found : (place : ℕ) (cs rest : List ℕ) (what : Option Kind) → piece_at place cs ≡ Ok (what, rest) → IsFound what cs rest
piece_found place [] rest what e = absurd (piece_none place rest what e)
piece_found place (c ∷ cs) rest what e = subst (Shows place (c ∷ cs)) e (piece_shown place c cs)
