use Rattle.std.proofs.Common.{◌≡◌, drop}
use Rattle.std.specs.Cmp.Lexicographic.{pointwise}
use Rattle.og_game.specs.Scopes.{goes_in}
use Rattle.og_game.proofs.scope.all_go.Given as goal

abbrev pub invariant-parts : goal.invariant-parts
invariant-parts g l =
    pointwise (goes_in (g.T.VariableTest.passes l.scope)) (drop l.at l.parts) (drop l.at l.types)
    ≡ pointwise (goes_in (g.T.VariableTest.passes l.scope)) l.parts l.types
