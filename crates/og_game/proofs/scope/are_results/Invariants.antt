use Rattle.std.proofs.Common.{◌≡◌, drop}
use Rattle.std.specs.List.{list_all}
use Rattle.og_game.specs.Scopes.{is_result}
use Rattle.og_game.proofs.scope.are_results.Given as goal

abbrev pub invariant-results : goal.invariant-results
invariant-results g l =
    list_all (is_result (g.T.VariableTest.passes l.scope)) (drop l.one-index l.results)
    ≡ list_all (is_result (g.T.VariableTest.passes l.scope)) l.results
