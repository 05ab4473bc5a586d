use Rattle.std.proofs.Common.{◌≡◌, suc, ◌-◌, ◌+◌, arith, sym, ◌∙◌}
use Rattle.std.proofs.lemmas.Result.{err_from_is_err_and}
use Rattle.og_grammar.specs.Reading.{read_all}
use Rattle.og_grammar.proofs.Repeating.{begun, goes_on, fails_by, stops, ends}
use Rattle.og_grammar.proofs.repeat.many.Goals as goal

pub turns-init : goal.turns-init
turns-init g c = λ reading is.
    let all : c.left-end.result - 0 ≡ c.left-end.result = omega arith in
    rw (all, c.left-end.ensures, c.new-found.ensures) (begun c.args.terminals.now reading c.args.tokens.now)

pub returns-then-not-sees_any : goal.returns-then-not-sees_any
returns-then-not-sees_any g c = λ reading is. stops _ reading _ _ _ _ (c.turns.invariant reading is) (sym c.sees_any.ensures ∙ c.if-not-sees_any.true)

pub returns-in_err-item : goal.returns-in_err-item
returns-in_err-item g c = λ reading is.
    let p = err_from_is_err_and c.from_residual.result c.from_residual.ensures.1 in
    let turn : c.left-end.result - c.turns.counter ≡ suc (c.left-end.result - (c.turns.counter + 1)) = omega (arith, c.turns-test.true) in
    fails_by c.args.terminals.now reading (c.left-end.result - (c.turns.counter + 1)) _ c.turns.found c.turns.tokens _ _ _ _ _ (read_all c.args.terminals.now reading)
    (rw turn at (c.turns.invariant reading is)) (sym c.sees_any.ensures ∙ c.if-not-sees_any.false) (is _ _ _ _ c.in_err-item.ensures) p.1 p.2

pub turns-preserved : goal.turns-preserved
turns-preserved g c = λ reading is.
    let turn : c.left-end.result - c.turns.counter ≡ suc (c.left-end.result - (c.turns.counter + 1)) = omega (arith, c.turns-test.true) in
    goes_on c.args.terminals.now reading (c.left-end.result - (c.turns.counter + 1)) _ c.turns.found _ c.turns.tokens _ _
    (rw turn at (c.turns.invariant reading is)) (sym c.sees_any.ensures ∙ c.if-not-sees_any.false) (is _ _ _ _ c.in_ok-item.ensures) c.in_ok-add.ensures.ok

pub returns : goal.returns
returns g c = λ reading is.
    let none : c.left-end.result - c.turns.counter ≡ 0 = omega (arith, c.turns-test.false) in
    ends c.args.terminals.now reading _ c.turns.found c.turns.tokens (rw none at (c.turns.invariant reading is))
