-- When a token is too deep: it opens a bracket while 64 are open, or it is the 33rd `>>>` or `&&&` of one game
-- expression outside inner brackets. Brackets are `(`, `[`, `{`, and `if`, which is open until its `end`.
--
-- What stands before a token is told by a walk back from it. At a closing token the walk goes into that bracket, and
-- it leaves it where that bracket opens; `inside` says in how many it is. What opens while it is in none is still open
-- at the token. What stands before a closing token that closes nothing isn't met.
use Rattle.std.specs.Prelude.{ℕ, zero, suc, ◌<◌, ◌≤◌, Bool, true, false, List, [], ◌∷◌, take, reverse, count_by, slice_get, Option, MatchOption, IsSomeAnd}
use Rattle.og_lex.specs.declared.token.Token.{Token}
use Rattle.og_lex.specs.declared.token.Kind.{Kind}
use Rattle.og_lex.specs.declared.token.Kind.TheVariants as kinds
use Rattle.og_lex.specs.declared.token.Mark.TheVariants as marks
use Rattle.og_lex.specs.declared.token.Word.TheVariants as words
use Rattle.og_syntax.specs.declared.depth.Role.{Role}
use Rattle.og_syntax.specs.declared.depth.Role.TheVariants as roles

-- what a token does
abbrev pub role_of : Kind → Role
role_of (kinds.Mark marks.LeftParen) = roles.Opens
role_of (kinds.Mark marks.LeftBracket) = roles.Opens
role_of (kinds.Mark marks.LeftBrace) = roles.Opens
role_of (kinds.Word words.If) = roles.Opens
role_of (kinds.Mark marks.RightParen) = roles.Closes
role_of (kinds.Mark marks.RightBracket) = roles.Closes
role_of (kinds.Mark marks.RightBrace) = roles.Closes
role_of (kinds.Word words.End) = roles.Closes
role_of (kinds.Mark marks.Then) = roles.Composes
role_of (kinds.Mark marks.Beside) = roles.Composes
role_of (kinds.Mark marks.Semicolon) = roles.Ends
role_of _ = roles.Other

-- ---- how many brackets are open, where `rest` tells it of the tokens before this one

abbrev pub open_step : Role → ℕ → (ℕ → ℕ) → ℕ
open_step roles.Closes inside rest = rest (suc inside)
open_step roles.Opens zero rest = suc (rest 0)
open_step roles.Opens (suc inside) rest = rest inside
open_step _ inside rest = rest inside

-- in the tokens before, the nearest first
abbrev pub open_in : List Token → ℕ → ℕ
open_in [] inside = 0
open_in (t ∷ ts) inside = open_step (role_of t.kind) inside (open_in ts)

-- ---- how many operators of the same game expression there are, likewise: the walk ends where the bracket round it
-- opens, and at a `;` outside inner brackets

abbrev pub operator_step : Role → ℕ → (ℕ → ℕ) → ℕ
operator_step roles.Closes inside rest = rest (suc inside)
operator_step roles.Opens zero rest = 0
operator_step roles.Opens (suc inside) rest = rest inside
operator_step roles.Ends zero rest = 0
operator_step roles.Composes zero rest = suc (rest 0)
operator_step _ inside rest = rest inside

abbrev pub operators_in : List Token → ℕ → ℕ
operators_in [] inside = 0
operators_in (t ∷ ts) inside = operator_step (role_of t.kind) inside (operators_in ts)

-- ---- deep tokens

-- a token that does this is too deep behind these tokens, the nearest first
abbrev pub IsDeepBehind : List Token → Role → Type 0
IsDeepBehind front roles.Opens = 64 ≤ open_in front 0
IsDeepBehind front roles.Composes = 32 ≤ operators_in front 0
IsDeepBehind front _ = ⊥

-- the tokens before the k-th, the nearest first
abbrev pub before : List Token → ℕ → List Token
before tokens k = reverse (take k tokens)

-- the k-th token is there, and is too deep
abbrev pub IsDeep : List Token → ℕ → Type 0
IsDeep tokens k = IsSomeAnd (slice_get tokens k) (λ t. IsDeepBehind (before tokens k) (role_of t.kind))

-- ---- the first deep token

-- no token is too deep
abbrev pub NoneDeep : List Token → Type 0
NoneDeep tokens = (j : ℕ) → IsDeep tokens j → ⊥

-- no token before that one is too deep
abbrev pub NoneDeepBefore : List Token → ℕ → Type 0
NoneDeepBefore tokens k = (j : ℕ) → j < k → IsDeep tokens j → ⊥

-- the first token that is too deep, where one is
abbrev pub FindsDeep : List Token → Option ℕ → Type 0
FindsDeep tokens found = MatchOption found (NoneDeep tokens) (λ k. IsDeep tokens k × NoneDeepBefore tokens k)

-- ---- how many of the tokens open a bracket, and how many close one

abbrev pub is_opening : Role → Bool
is_opening roles.Opens = true
is_opening _ = false

abbrev pub is_closing : Role → Bool
is_closing roles.Closes = true
is_closing _ = false

abbrev pub opened : List Token → ℕ
opened = count_by (λ t. is_opening (role_of t.kind))

abbrev pub closed : List Token → ℕ
closed = count_by (λ t. is_closing (role_of t.kind))
