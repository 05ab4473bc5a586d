use Rattle.std.specs.Prelude.{IsTrue, ◌≡◌, ◌↔◌}
use Rattle.std.proofs.lemmas.Result.{IfOk-weaker}
use Rattle.og_small.specs.Rules.{is_accepted}
use Rattle.og_small.specs.Accepted.{IsAccepted}
use Rattle.og_small.proofs.AcceptedLemmas.{IsAccepted-from_test}
use Rattle.og_small.proofs.rules.accepts.Goals as goal

pub returns-clause-rules : goal.returns-clause-rules
returns-clause-rules c =
    IfOk-weaker c.is_accepted.result (λ good. good ≡ is_accepted c.args.game.now) (λ good. IsTrue good ↔ IsAccepted c.args.game.now)
    (λ good is. IsAccepted-from_test c.args.game.now good is) c.is_accepted.ensures
