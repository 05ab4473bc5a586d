use Rattle.std.proofs.lemmas.Result.{err_from_is_err_and}
use Rattle.og_grammar.proofs.Repeating.{behind_by, no_mark_by}
use Rattle.og_grammar.proofs.repeat.next.Goals as goal

pub returns-in_err-take : goal.returns-in_err-take
returns-in_err-take g c = λ reading is.
    let p = err_from_is_err_and c.from_residual.result c.from_residual.ensures.1 in
    no_mark_by c.args.between reading c.args.tokens.now _ _ _ _ _ c.in_err-take.ensures.read p.1 p.2

pub returns : goal.returns
returns g c = λ reading is.
    behind_by c.args.between reading c.args.tokens.now _ _ _ c.item.result c.in_ok-take.ensures.read (is _ _ _ _ c.item.ensures)
