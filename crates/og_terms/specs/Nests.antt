-- A function value that reads expressions inside others.
use Rattle.std.specs.Prelude.{ℕ}
use Rattle.std.specs.declared.alloc.Global.{Global}
use denote.Ref.{MutBor}
use Rattle.std.specs.Prelude.{List}
use Rattle.og_grammar.specs.Lexeme.{Lexeme}
use Rattle.og_grammar.specs.Items.{Calls, IsCallable, IsReader}
use Rattle.og_grammar.specs.Reading.{read}
use Rattle.og_syntax.specs.declared.expressions.ExprTree.{ExprTree}
use Rattle.og_language.specs.Grammar.{expr}
use Rattle.og_language.specs.Language.{in_room}

-- It may be called in this room, and reads an expression there.
pub record Nests (room : ℕ) (pre : Global → MutBor (List Lexeme) → ℕ → Type 0) (post : Calls ExprTree) : Type 0 where
  pub callable : IsCallable room pre
  pub reads : IsReader room post (read (in_room room) expr)
