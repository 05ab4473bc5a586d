-- What the wiring gives of a game expression that stands somewhere in the body of a declared game.
use Rattle.std.specs.Prelude.{ℕ, List, length, Option, Some, None, Ok, Err}
use Rattle.og_expr.specs.Counts.{capped}
use Rattle.og_syntax.specs.declared.games.GameTree.{GameTree}
use Rattle.og_syntax.specs.declared.declarations.Decl.{Decl}
use Rattle.og_syntax.specs.declared.declarations.GameParam.{GameParam}
use Rattle.og_typing.specs.Checked.{Checked, ◌>>=◌}
use Rattle.og_typing.specs.Sizes.{plus}
use Rattle.og_wires.specs.declared.kind.Level.{Level}
use Rattle.og_wires.specs.declared.kind.GameKind.{GameKind}
use Rattle.og_wires.specs.Sites.{Blocks}
use Rattle.og_wires.specs.Games.{game_walk}
use Rattle.og_wires.specs.Programs.{no_names, decls_walk, game_params_walk, site_of}
use Rattle.og_places.specs.declared.places.Step.{Step}

-- where the expression stands: the body has depth 1, each step leads one deeper, and none leads into a branch
abbrev pub level_at : List Step → Level
level_at steps = record { depth = plus 1 (capped (length steps)); inside = 0 }

-- the declarations before the game, then the game's parameters, then the expression
abbrev pub expression_walk : Blocks → List Decl → List ℕ → List GameParam → Level → GameTree → Checked GameKind
expression_walk blocks before name params level expression = do
  known ← decls_walk blocks 0 no_names before
  found ← game_params_walk known.declared name params
  game_walk expression (site_of known name found.given blocks) level

-- what a walk gives, where no rule is broken
abbrev pub given_by : {A : Type 0} → Checked A → Option A
given_by (Ok a) = Some a
given_by (Err fault) = None
