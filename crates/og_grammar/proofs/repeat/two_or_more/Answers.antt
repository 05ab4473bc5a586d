use Rattle.std.proofs.lemmas.Result.{err_from_is_err_and}
use Rattle.og_grammar.proofs.Repeating.{two_by, two_fails_first, two_fails_comma}
use Rattle.og_grammar.proofs.repeat.two_or_more.Goals as goal

pub returns-in_err-item : goal.returns-in_err-item
returns-in_err-item g c = λ reading is.
    let p = err_from_is_err_and c.from_residual.result c.from_residual.ensures.1 in
    two_fails_first reading c.args.tokens.now _ _ _ _ _ (is _ _ _ _ c.in_err-item.ensures) p.1 p.2

pub returns-in_err-take : goal.returns-in_err-take
returns-in_err-take g c = λ reading is.
    let p = err_from_is_err_and c.from_residual-in_err-take.result c.from_residual-in_err-take.ensures.1 in
    two_fails_comma reading c.args.tokens.now _ _ _ _ _ _ _ (is _ _ _ _ c.in_ok-item.ensures) c.in_err-take.ensures.read p.1 p.2

pub returns : goal.returns
returns g c = λ reading is.
    two_by reading c.args.tokens.now _ _ _ _ _ c.new-found.result c.add.new.self c.separated_onto.result (is _ _ _ _ c.in_ok-item.ensures) c.in_ok-take.ensures.read
    c.new-found.ensures c.in_ok-add.ensures.ok (c.separated_onto.ensures reading is)
