use Rattle.std.proofs.Common.{◌≡◌, ◌∙◌, ◌++◌, ap}
use Rattle.std.specs.Prelude.{Contains, ◌↔◌}
use Rattle.std.proofs.lemmas.Result.{IfOk-weaker}
use Rattle.og_expr.specs.Variables.{numbers_of}
use Rattle.og_expr.proofs.variables.variables.Goals as goal

pub returns-clause-each : goal.returns-clause-each
returns-clause-each c =
    let walked : c.walk.new.found.items ≡ numbers_of c.args.e.now =
    c.in_ok-walk.ensures ∙ ap (λ ns. ns ++ numbers_of c.args.e.now) c.new-found.ensures.items in
    IfOk-weaker c.from_slice.result _ (λ found. (n : _) → Contains found n ↔ Contains (numbers_of c.args.e.now) n)
    (λ made is n.
    let all : made ≡ c.ascend.new.found.items = is ∙ c.as_slice.ensures.value in
    rw (all, ← walked) (c.ascend.ensures.each n)) c.from_slice.ensures
