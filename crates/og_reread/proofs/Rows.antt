-- Rows of written tokens, and their lexemes.
use Rattle.std.proofs.Common.{◌≡◌, ◌∙◌, ℕ, ◌+◌, List, [], ◌∷◌, ◌++◌, length, refl, sym, ap, arith, append_assoc, length-append}
use Rattle.std.specs.List.{AllByRecursion}
use Rattle.og_lex.specs.Written.{Written, text_of}
use Rattle.og_grammar.specs.Lexeme.{Lexeme, terminal_of, value_of}

-- the lexemes of the tokens, from a place on
abbrev pub lexemes : ℕ → List Written → List Lexeme
lexemes place [] = []
lexemes place (w ∷ ws) =
    record { terminal = terminal_of w.kind; value = value_of w.kind; start = place; spelling = w.bytes }
    ∷ lexemes (place + length w.bytes + 1) ws

pub split_all : {X : Type 0} (P : X → Type 0) (xs ys : List X) → AllByRecursion P (xs ++ ys) → AllByRecursion P xs × AllByRecursion P ys
split_all P [] ys all = (tt, all)
split_all P (x ∷ xs) ys all = let more = split_all P xs ys all.1 in ((all.0, more.0), more.1)

pub join_all : {X : Type 0} (P : X → Type 0) (xs ys : List X) → AllByRecursion P xs → AllByRecursion P ys → AllByRecursion P (xs ++ ys)
join_all P [] ys front back = back
join_all P (x ∷ xs) ys front back = (front.0, join_all P xs ys front.1 back)

pub text_of-append : (xs ys : List Written) → text_of (xs ++ ys) ≡ text_of xs ++ text_of ys
text_of-append [] ys = refl
text_of-append (w ∷ ws) ys =
    ap (λ l. w.bytes ++ (w.blank ∷ l)) (text_of-append ws ys) ∙ sym (append_assoc w.bytes (w.blank ∷ text_of ws) (text_of ys))

pub lexemes-append : (place : ℕ) (xs ys : List Written) → lexemes place (xs ++ ys) ≡ lexemes place xs ++ lexemes (place + length (text_of xs)) ys
lexemes-append place [] ys = let same : place ≡ place + 0 = omega arith in ap (λ n. lexemes n ys) same
lexemes-append place (w ∷ ws) ys =
    let next : ℕ = place + length w.bytes + 1 in
    let long : next + length (text_of ws) ≡ place + length (w.bytes ++ (w.blank ∷ text_of ws)) =
    omega (arith, length-append w.bytes (w.blank ∷ text_of ws)) in
    let more = lexemes-append next ws ys ∙ ap (λ n. lexemes next ws ++ lexemes n ys) long in
    ap (λ l. record { terminal = terminal_of w.kind; value = value_of w.kind; start = place; spelling = w.bytes } ∷ l) more
