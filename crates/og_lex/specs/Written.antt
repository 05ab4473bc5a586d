-- A text that is written token by token, each with a blank behind it.
use Rattle.std.specs.Prelude.{◌≡◌, ℕ, ◌+◌, true, List, [], ◌∷◌, ◌++◌, length}
use Rattle.std.specs.Str.{chars, IsUtf8}
use Rattle.og_lex.specs.declared.token.Kind.{Kind}
use Rattle.og_lex.specs.declared.token.Token.{Token}
use Rattle.og_lex.specs.Characters.{is_blank}
use Rattle.og_lex.specs.Spelling.{Spells}

-- a token: its kind, the bytes that write it, and the blank behind them
pub record Written : Type 0 where
  pub kind : Kind
  pub bytes : List ℕ
  pub blank : ℕ

-- The bytes write a token of the kind, and what follows is a blank.
pub record IsWritten (w : Written) : Type 0 where
  pub utf8 : IsUtf8 w.bytes
  pub spelled : Spells w.kind (chars w.bytes)
  pub is_blank : is_blank w.blank ≡ true

-- the text of the tokens in a row
abbrev pub text_of : List Written → List ℕ
text_of [] = []
text_of (w ∷ ws) = w.bytes ++ (w.blank ∷ text_of ws)

-- where they stand, from a place on
abbrev pub placed : ℕ → List Written → List Token
placed place [] = []
placed place (w ∷ ws) =
    record { kind = w.kind; start = place; end = place + length w.bytes } ∷ placed (place + length w.bytes + 1) ws
