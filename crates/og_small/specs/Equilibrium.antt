-- What an equilibrium is.
use Rattle.std.specs.Prelude.{◌≡◌, ℕ, ◌≤◌, List, Some, slice_get, slice_set}
use Rattle.og_small.specs.declared.tree.SmallGame.{SmallGame}
use Rattle.og_small.specs.declared.tree.Line.{Line}
use Rattle.og_small.specs.Rules.{cases_of}
use Rattle.og_small.specs.Meaning.{total}

-- No agent gains by another case at one of its lines, all else as it is.
pub record IsEquilibrium (g : SmallGame) (choices : List (List ℕ)) : Type 0 where
  pub none_gains : (at : ℕ) (line : Line) (cases : List (List ℕ)) (k : ℕ) (action : List ℕ)
      → slice_get g.lines at ≡ Some line → cases_of g.types line.action ≡ Some cases → slice_get cases k ≡ Some action
      → total g.lines (slice_set choices at action) line.agent ≤ total g.lines choices line.agent
