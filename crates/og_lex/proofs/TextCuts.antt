-- How the characters of a text follow its cuts.
use Rattle.std.proofs.Common.{◌≡◌, ℕ, ◌-◌, Bool, true, false, cond, List, [], ◌∷◌, ◌++◌, length, sym, ap, ◌∙◌, subst, append_assoc, arith, length-append}
use Rattle.std.specs.Prelude.{encode_utf8, encode_utf8_all}
use Rattle.std.specs.Str.{chars, IsUtf8, IsCharBoundary}
use Rattle.std.proofs.lemmas.Str.{encodes-append, IsCharBoundary-at_seam}
use Rattle.std.proofs.lemmas.List.{append-nil}
use Rattle.og_lex.specs.Characters.{run, behind}

pub run-yes : (p : ℕ → Bool) (c : ℕ) (cs : List ℕ) → p c ≡ true → run p (c ∷ cs) ≡ c ∷ run p cs
run-yes p c cs y = ap (λ b. cond b (c ∷ run p cs) []) y

pub run-no : (p : ℕ → Bool) (c : ℕ) (cs : List ℕ) → p c ≡ false → run p (c ∷ cs) ≡ []
run-no p c cs y = ap (λ b. cond b (c ∷ run p cs) []) y

pub behind-yes : (p : ℕ → Bool) (c : ℕ) (cs : List ℕ) → p c ≡ true → behind p (c ∷ cs) ≡ behind p cs
behind-yes p c cs y = ap (λ b. cond b (behind p cs) (c ∷ cs)) y

pub behind-no : (p : ℕ → Bool) (c : ℕ) (cs : List ℕ) → p c ≡ false → behind p (c ∷ cs) ≡ c ∷ cs
behind-no p c cs y = ap (λ b. cond b (behind p cs) (c ∷ cs)) y

-- rest is what is left of the text behind some characters that all pass
pub record IsPassed (p : ℕ → Bool) (text rest : List ℕ) : Type 0 where
  pub front : List ℕ
  pub whole : text ≡ encode_utf8_all front ++ rest
  pub ran : run p (chars text) ≡ front ++ run p (chars rest)
  pub left : behind p (chars text) ≡ behind p (chars rest)

pub passed_more : (p : ℕ → Bool) (text rest after : List ℕ) (c : ℕ) → IsPassed p text rest → chars rest ≡ c ∷ chars after → rest ≡ encode_utf8 c ++ after → p c ≡ true → IsPassed p text after
passed_more p text rest after c h e w y =
    let grown : encode_utf8_all (h.front ++ c ∷ []) ≡ encode_utf8_all h.front ++ encode_utf8 c =
    encodes-append h.front (c ∷ []) ∙ ap (λ x. encode_utf8_all h.front ++ x) (append-nil (encode_utf8 c)) in
    record {
      front = h.front ++ c ∷ [];
      whole = h.whole ∙ ap (λ r. encode_utf8_all h.front ++ r) w ∙ sym (append_assoc (encode_utf8_all h.front) (encode_utf8 c) after) ∙ ap (λ x. x ++ after) (sym grown);
      ran = h.ran ∙ ap (λ r. h.front ++ run p r) e ∙ ap (λ r. h.front ++ r) (run-yes p c (chars after) y) ∙ sym (append_assoc h.front (c ∷ []) (run p (chars after)));
      left = h.left ∙ ap (behind p) e ∙ behind-yes p c (chars after) y;
    }

-- a text may be cut where a text follows
pub seam_length : (text front rest : List ℕ) → text ≡ front ++ rest → length text - length rest ≡ length front
seam_length text front rest e = omega (arith, ap length e, length-append front rest)

pub seam_boundary : (text front rest : List ℕ) → text ≡ front ++ rest → IsUtf8 rest → IsCharBoundary text (length text - length rest)
seam_boundary text front rest e u = subst (IsCharBoundary text) (sym (seam_length text front rest e)) (IsCharBoundary-at_seam text front rest e u)
