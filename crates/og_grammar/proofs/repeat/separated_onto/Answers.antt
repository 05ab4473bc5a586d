use Rattle.std.proofs.Common.{◌≡◌, suc, ◌-◌, ◌+◌, [], ◌∷◌, arith, true, false, sym, ◌∙◌}
use Rattle.std.proofs.lemmas.Result.{err_from_is_err_and}
use Rattle.og_grammar.specs.Reading.{read_behind, read_separated_onto}
use Rattle.og_grammar.proofs.TerminalSets.{sees_one}
use Rattle.og_grammar.proofs.Repeating.{separated_begun, first_fails_by, goes_on, fails_by, stops, ends}
use Rattle.og_grammar.proofs.repeat.separated_onto.Goals as goal

pub returns-in_err-item : goal.returns-in_err-item
returns-in_err-item g c = λ reading is.
    let p = err_from_is_err_and c.from_residual.result c.from_residual.ensures.1 in
    first_fails_by c.args.between c.args.before reading c.args.tokens.now _ _ _ _ _ (is _ _ _ _ c.in_err-item.ensures) p.1 p.2

pub turns-init : goal.turns-init
turns-init g c = λ reading is.
    let all : c.left-end.result - 0 ≡ c.left-end.result = omega arith in
    rw (all, c.left-end.ensures)
    (separated_begun c.args.between c.args.before reading c.args.tokens.now _ _ c.add.new.self (is _ _ _ _ c.in_ok-item.ensures) c.in_ok-add.ensures.ok)

pub returns-then-not-sees : goal.returns-then-not-sees
returns-then-not-sees g c = λ reading is.
    stops (c.args.between ∷ []) (read_behind c.args.between reading) _ _ _ _ (c.turns.invariant reading is)
    (sees_one c.args.between c.turns.tokens false (sym c.sees.ensures ∙ c.if-not-sees.true))

pub returns-in_err-next : goal.returns-in_err-next
returns-in_err-next g c = λ reading is.
    let p = err_from_is_err_and c.from_residual-in_err-next.result c.from_residual-in_err-next.ensures.1 in
    let turn : c.left-end.result - c.turns.counter ≡ suc (c.left-end.result - (c.turns.counter + 1)) = omega (arith, c.turns-test.true) in
    fails_by (c.args.between ∷ []) (read_behind c.args.between reading) (c.left-end.result - (c.turns.counter + 1)) _ c.turns.found c.turns.tokens _ _ _ _ _
    (read_separated_onto c.args.between c.args.before reading) (rw turn at (c.turns.invariant reading is))
    (sees_one c.args.between c.turns.tokens true (sym c.sees.ensures ∙ c.if-not-sees.false)) (c.in_err-next.ensures reading is) p.1 p.2

pub turns-preserved : goal.turns-preserved
turns-preserved g c = λ reading is.
    let turn : c.left-end.result - c.turns.counter ≡ suc (c.left-end.result - (c.turns.counter + 1)) = omega (arith, c.turns-test.true) in
    goes_on (c.args.between ∷ []) (read_behind c.args.between reading) (c.left-end.result - (c.turns.counter + 1)) _ c.turns.found _ c.turns.tokens _ _
    (rw turn at (c.turns.invariant reading is))
    (sees_one c.args.between c.turns.tokens true (sym c.sees.ensures ∙ c.if-not-sees.false)) (c.in_ok-next.ensures reading is) c.in_ok-add-2.ensures.ok

pub returns : goal.returns
returns g c = λ reading is.
    let none : c.left-end.result - c.turns.counter ≡ 0 = omega (arith, c.turns-test.false) in
    ends (c.args.between ∷ []) (read_behind c.args.between reading) _ c.turns.found c.turns.tokens (rw none at (c.turns.invariant reading is))
