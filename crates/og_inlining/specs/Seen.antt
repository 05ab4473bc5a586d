-- What names in an expression stand for.
use Rattle.og_expr.specs.declared.node.Term.{Term}
use Rattle.og_game.specs.declared.scope.Variable.{Variable}
use Rattle.og_typing.specs.declared.meaning.Meaning.{Meaning}
use Rattle.og_typing.specs.Types.{Table}
use Rattle.og_inlining.specs.declared.seen.Trees.{Trees}

-- what is declared, the variables, the trees of the game's parameters, and those of the functions' bodies
pub record Seen : Type 0 where
  pub declared : Table Meaning
  pub variables : Table Variable
  pub given : Table Term
  pub bodies : Table Term

abbrev pub seen_of : Trees → Seen
seen_of trees = record {
  declared = trees.declared.now;
  variables = trees.variables.now;
  given = trees.given.now;
  bodies = trees.bodies.now;
}
