-- The reserved words are ASCII, so their bytes are their characters.
use Rattle.std.proofs.Common.{◌≡◌, inl, inr, ℕ, true, cond, List, [], ◌∷◌, refl, sym, ap, ◌∙◌}
use Rattle.std.specs.Prelude.{encode_utf8_all, Some, ◌==◌}
use Rattle.std.specs.List.{list_all}
use Rattle.std.specs.Cmp.Lexicographic.{same_text}
use Rattle.std.proofs.lemmas.Bool.{eq-eqb, cases_Bool, and_from}
use Rattle.std.proofs.lemmas.Str.{encodes_same}
use Rattle.og_lex.specs.declared.token.Word.{Word}
use Rattle.og_lex.specs.declared.token.Word.TheVariants as words
use Rattle.og_lex.specs.Characters.{is_ascii_char}
use Rattle.og_lex.specs.Tables.{word_text, all_words}
use Rattle.og_lex.specs.LeftToRight.{same, word_among, word_of}
use Rattle.og_lex.proofs.Strip.{ascii_encodes}

pub same-true : (xs ys : List ℕ) → same xs ys ≡ true → xs ≡ ys
same-true xs ys e = same_text xs ys (sym e)

pub same-refl : (xs : List ℕ) → same xs xs ≡ true
same-refl [] = refl
same-refl (x ∷ xs) = and_from (x == x) (same xs xs) (eq-eqb x x refl) (same-refl xs)

same-encodes : (front cs : List ℕ) → list_all is_ascii_char front ≡ true → same front (encode_utf8_all cs) ≡ same front cs
same-encodes front cs a =
    elim (cases_Bool (same front cs)) [
      | inl holds ↦
          let at : front ≡ cs = same-true front cs holds in
          let own : encode_utf8_all cs ≡ front = ap encode_utf8_all (sym at) ∙ ascii_encodes front a in
          ap (same front) own ∙ same-refl front ∙ sym holds
      | inr differs ↦
          elim (cases_Bool (same front (encode_utf8_all cs))) [
            | inl holds ↦
                let at : front ≡ cs = encodes_same front cs (ascii_encodes front a ∙ same-true front (encode_utf8_all cs) holds) in
                holds ∙ sym (ap (same front) (sym at) ∙ same-refl front)
            | inr other ↦ other ∙ sym differs
          ]
    ]

pub word_ascii : (w : Word) → list_all is_ascii_char (word_text w) ≡ true
unfolding word_text
word_ascii words.«Type» = refl
word_ascii words.Fn = refl
word_ascii words.Game = refl
word_ascii words.Block = refl
word_ascii words.Inputs = refl
word_ascii words.Feedback = refl
word_ascii words.Operation = refl
word_ascii words.Outputs = refl
word_ascii words.Returns = refl
word_ascii words.DependentDecision = refl
word_ascii words.Nature = refl
word_ascii words.ForwardFunction = refl
word_ascii words.BackwardFunction = refl
word_ascii words.Identity = refl
word_ascii words.Library = refl
word_ascii words.If = refl
word_ascii words.Then = refl
word_ascii words.Elif = refl
word_ascii words.Else = refl
word_ascii words.End = refl
word_ascii words.Table = refl
word_ascii words.And = refl
word_ascii words.Or = refl
word_ascii words.Not = refl
word_ascii words.True = refl
word_ascii words.False = refl
word_ascii words.Bool = refl
word_ascii words.Number = refl
word_ascii words.Agent = refl
word_ascii words.Ratio = refl
word_ascii words.Min = refl
word_ascii words.Max = refl
word_ascii words.Clamp = refl
word_ascii words.Strategy = refl
word_ascii words.Among = refl
word_ascii words.Branch = refl
word_ascii words.Version = refl

among_encodes : (ws : List Word) (cs : List ℕ) → word_among ws (encode_utf8_all cs) ≡ word_among ws cs
among_encodes [] cs = refl
among_encodes (w ∷ ws) cs =
    ap (λ b. cond b (Some w) (word_among ws (encode_utf8_all cs))) (same-encodes (word_text w) cs (word_ascii w))
    ∙ ap (λ o. cond (same (word_text w) cs) (Some w) o) (among_encodes ws cs)

pub word_of_encodes : (cs : List ℕ) → word_of (encode_utf8_all cs) ≡ word_of cs
unfolding word_of
word_of_encodes cs = among_encodes all_words cs
