-- What `parse` reads from a run of digits.
use Rattle.std.proofs.Common.{◌≡◌, inl, inr, ℕ, ◌^◌, ◌<◌, ◌≤◌, Bool, true, cond, List, [], ◌∷◌, drop, refl, sym, ap, ◌∙◌, subst, arith}
use Rattle.std.specs.Prelude.{encode_utf8_all, if◌then◌else◌, Option, Some, None, Result, Ok, Err, nat_lt, nat_le, ◌==◌}
use Rattle.std.specs.List.{list_all}
use Rattle.std.specs.Str.Parse.{AllDigits, IsNumeral, digits_value, without_leading_plus, ParsesUnsigned}
use Rattle.std.proofs.lemmas.Bool.{eqb-true, leb-true, lt-ltb, ltb-true, cases_Bool, and_parts, and_from}
use Rattle.std.proofs.lemmas.Str.{digit_value_digit}
use Rattle.og_lex.specs.Characters.{is_ascii_char, is_digit, run}
use Rattle.og_lex.specs.LeftToRight.{number_of}
use Rattle.og_lex.proofs.Strip.{ascii_encodes}

pub run-all : (p : ℕ → Bool) (cs : List ℕ) → list_all p (run p cs) ≡ true
run-all p [] = refl
run-all p (c ∷ cs) =
    elim (cases_Bool (p c)) [
      | inl holds ↦ ap (λ b. list_all p (cond b (c ∷ run p cs) [])) holds ∙ and_from (p c) (list_all p (run p cs)) holds (run-all p cs)
      | inr stops ↦ ap (λ b. list_all p (cond b (c ∷ run p cs) [])) stops
    ]

pub digit_range : (c : ℕ) → is_digit c ≡ true → (48 ≤ c) × (c ≤ 57)
digit_range c e = let h = and_parts (nat_le 48 c) (nat_le c 57) e in (leb-true 48 c h.0, leb-true c 57 h.1)

pub digits_ascii : (ds : List ℕ) → list_all is_digit ds ≡ true → list_all is_ascii_char ds ≡ true
digits_ascii [] e = refl
digits_ascii (d ∷ ds) e =
    let h = and_parts (is_digit d) (list_all is_digit ds) e in
    let r = digit_range d h.0 in
    and_from (is_ascii_char d) (list_all is_ascii_char ds) (lt-ltb d 128 (omega arith)) (digits_ascii ds h.1)

digits_all : (ds : List ℕ) → list_all is_digit ds ≡ true → AllDigits 10 ds
digits_all [] e = tt
digits_all (d ∷ ds) e =
    let h = and_parts (is_digit d) (list_all is_digit ds) e in
    let r = digit_range d h.0 in
    (omega (arith, digit_value_digit d r), digits_all ds h.1)

no_plus : (d : ℕ) (ds : List ℕ) → is_digit d ≡ true → without_leading_plus (d ∷ ds) ≡ d ∷ ds
no_plus d ds e =
    let r = digit_range d e in
    elim (cases_Bool (d == 43)) [
      | inl holds ↦ let at = eqb-true d 43 holds in absurd (omega arith)
      | inr other ↦ ap (λ b. drop (cond b 1 0) (d ∷ ds)) other
    ]

-- the value that was parsed, if it is below 2 ^ 63
abbrev pub below : {E : Type 0} → Result ℕ E → Option ℕ
below (Ok n) = if nat_lt n (2 ^ 63) then Some n else None
below (Err e) = None

parsed : {E : Type 0} (ds : List ℕ) (r : Result ℕ E) → list_all is_digit ds ≡ true → ParsesUnsigned 64 10 ds r → number_of ds ≡ below r
parsed [] (Ok n) a p = absurd (omega (arith, p.0.0.0))
parsed [] (Err e) a p = refl
parsed (d ∷ ds) (Ok n) a p =
    let e : n ≡ digits_value 10 (d ∷ ds) = p.1 ∙ ap (digits_value 10) (no_plus d ds (and_parts (is_digit d) (list_all is_digit ds) a).0) in
    ap (λ m. cond (nat_lt m (2 ^ 63)) (Some m) None) (sym e)
parsed (d ∷ ds) (Err e) a p =
    let plain = no_plus d ds (and_parts (is_digit d) (list_all is_digit ds) a).0 in
    elim (cases_Bool (nat_lt (digits_value 10 (d ∷ ds)) (2 ^ 63))) [
      | inl holds ↦
          let small : digits_value 10 (d ∷ ds) < 2 ^ 64 = omega (arith, ltb-true (digits_value 10 (d ∷ ds)) (2 ^ 63) holds) in
          let Is : List ℕ → Type 0 = λ l. IsNumeral 10 l × (digits_value 10 l < 2 ^ 64) in
          absurd (p (subst Is (sym plain) ((omega arith, digits_all (d ∷ ds) a), small)))
      | inr wide ↦ ap (λ b. cond b (Some (digits_value 10 (d ∷ ds))) None) wide
    ]

pub number_parsed : {E : Type 0} (cs : List ℕ) (r : Result ℕ E) → ParsesUnsigned 64 10 (encode_utf8_all (run is_digit cs)) r → number_of (run is_digit cs) ≡ below r
number_parsed cs r p =
    let Is : List ℕ → Type 0 = λ l. ParsesUnsigned 64 10 l r in
    parsed (run is_digit cs) r (run-all is_digit cs) (subst Is (ascii_encodes (run is_digit cs) (digits_ascii (run is_digit cs) (run-all is_digit cs))) p)
