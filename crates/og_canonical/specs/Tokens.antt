-- The tokens of the canonical text, one after another: each with a space behind it, or with a line feed behind
-- `{`, `}`, `;` and the separator.
use Rattle.std.specs.Prelude.{ℕ, ℤ, pos, Bool, true, false, if◌then◌else◌, List, [], ◌∷◌, ◌++◌}
use Rattle.std.specs.Prelude.{codes, int_lt, unsigned_abs, decimal}
use Rattle.std.specs.List.{join_by}
use Rattle.og_lex.specs.Tables.{word_text, mark_text}
use Rattle.og_lex.specs.declared.token.Word.{Word}
use Rattle.og_lex.specs.declared.token.Mark.{Mark}
use Rattle.og_lex.specs.declared.token.Mark.TheVariants as marks

-- a token with a space behind it
unfoldable pub spaced : List ℕ → List ℕ
spaced token = token ++ 32 ∷ []

-- the marks that end their line
abbrev pub ends_line : Mark → Bool
ends_line marks.LeftBrace = true
ends_line marks.RightBrace = true
ends_line marks.Semicolon = true
ends_line _ = false

unfoldable pub mark : Mark → List ℕ
mark m = mark_text m ++ (if ends_line m then 10 else 32) ∷ []

unfoldable pub word : Word → List ℕ
word w = spaced (word_text w)

-- a separator of five hyphens
unfoldable pub separator : List ℕ
separator = codes ":-----:" ++ 10 ∷ []

unfoldable pub quoted : List ℕ → List ℕ
quoted name = 34 ∷ (name ++ 34 ∷ 32 ∷ [])

unfoldable pub number : ℕ → List ℕ
number n = spaced (decimal n)

-- a whole number: a minus where it is below 0, and then its size
unfoldable pub whole : ℤ → List ℕ
whole n = if int_lt n (pos 0) then mark marks.Minus ++ number (unsigned_abs n) else number (unsigned_abs n)

-- texts in a row, with this between each two
abbrev pub joined : List ℕ → List (List ℕ) → List ℕ
joined between = join_by (λ part. part) between

abbrev pub commas : List (List ℕ) → List ℕ
commas = joined (mark marks.Comma)

abbrev pub in_parens : List ℕ → List ℕ
in_parens text = mark marks.LeftParen ++ text ++ mark marks.RightParen

abbrev pub in_brackets : List ℕ → List ℕ
in_brackets text = mark marks.LeftBracket ++ text ++ mark marks.RightBracket

abbrev pub in_braces : List ℕ → List ℕ
in_braces text = mark marks.LeftBrace ++ text ++ mark marks.RightBrace

-- in round brackets, and nothing where there is none
abbrev pub optional : List (List ℕ) → List ℕ
optional [] = []
optional (first ∷ rest) = in_parens (commas (first ∷ rest))
