use Rattle.std.proofs.Common.{arith}
use Rattle.std.proofs.lemmas.Grind.{common_steps}
use Rattle.og_types.proofs.Pointwise.{pointwise_goes}
use Rattle.og_game.specs.Scopes.{goes_in}
use Rattle.og_game.proofs.scope.all_go.Goals as goal

pub parts-preserved : goal.parts-preserved
parts-preserved g c = grind (
  arith,
  common_steps,
  pointwise_goes (goes_in (g.T.VariableTest.passes c.args.scope.now)) c.args.parts.now c.args.types.now c.parts.at
      c.part-item.result c.in-Some.ty.now,
)
