-- A function value that reads games inside others.
use Rattle.std.specs.Prelude.{ℕ, Bool, List, Result}
use Rattle.std.specs.declared.alloc.Global.{Global}
use denote.Ref.{MutBor}
use Rattle.og_grammar.specs.Lexeme.{Lexeme}
use Rattle.og_grammar.specs.declared.fault.Fault.{Fault}
use Rattle.og_syntax.specs.declared.games.GameTree.{GameTree}
use Rattle.og_language.specs.Grammar.{subgame}
use Rattle.og_terms.specs.Rooms.{Reads}

-- It may be called in this room for games in which branches may stand or not, and reads one there.
pub record NestsGames (room : ℕ) (branches : Bool) (pre : Global → MutBor (List Lexeme) → ℕ → Bool → Type 0)
    (post : Global → MutBor (List Lexeme) → ℕ → Bool → Result GameTree Fault → MutBor (List Lexeme) → Type 0) : Type 0 where
  pub callable : (alloc : Global) (old : MutBor (List Lexeme)) → pre alloc old room branches
  pub reads : (alloc : Global) (old new : MutBor (List Lexeme)) (r : Result GameTree Fault) → post alloc old room branches r new
      → Reads room (subgame branches) old.now r new.now
