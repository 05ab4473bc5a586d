use Rattle.std.proofs.Common.{◌≡◌, ◌<◌, ◌-◌, ◌+◌, List, length, rules, arith, sym, subst}
use Rattle.std.specs.Prelude.{Ok}
use Rattle.std.specs.Str.{chars, IsUtf8}
use Rattle.std.proofs.lemmas.Bool.Decides.{nat_tests}
use Rattle.std.proofs.lemmas.List.{nil_from_length}
use Rattle.std.proofs.lemmas.Result.{err_from_is_err_and}
use Rattle.og_lex.specs.declared.token.Token.{Token}
use Rattle.og_lex.specs.LeftToRight.{piece_at}
use Rattle.og_lex.proofs.Scans.{IsRead, read_start, read_step, read_less, read_fail, read_end, some_from_length}
use Rattle.og_lex.proofs.lexer.read.Goals as goal

pub pieces-init : goal.pieces-init
pieces-init c = (c.utf8.text, subst (λ ts. IsRead c.args.text.now ts 0 c.args.text.now) (sym c.new-tokens.ensures) (read_start c.args.text.now))

pub returns : goal.returns
returns c =
    let none : length c.pieces.rest.now ≡ 0 = grind (arith, nat_tests) in
    read_end c.args.text.now c.pieces.tokens c.pieces.place c.pieces.rest.now c.pieces.invariant.1 (nil_from_length c.pieces.rest.now none)

pub overflow_sub-end : goal.overflow_sub-end
overflow_sub-end c =
    let e : piece_at c.pieces.place (chars c.pieces.rest.now) ≡ Ok (c.in_ok-kind.kind, chars c.in_ok-kind.after.now) = search rules in
    let less : length c.in_ok-kind.after.now < length c.pieces.rest.now = (read_less c.pieces.place c.pieces.rest.now c.in_ok-kind.after.now c.in_ok-kind.kind c.pieces.invariant.0 (search rules) e).0 in
    omega arith

pub pieces-smaller : goal.pieces-smaller
pieces-smaller c =
    let e : piece_at c.pieces.place (chars c.pieces.rest.now) ≡ Ok (c.in_ok-kind.kind, chars c.in_ok-kind.after.now) = search rules in
    (read_less c.pieces.place c.pieces.rest.now c.in_ok-kind.after.now c.in_ok-kind.kind c.pieces.invariant.0 (search rules) e).0

pub pieces-preserved : goal.pieces-preserved
pieces-preserved c =
    let e : piece_at c.pieces.place (chars c.pieces.rest.now) ≡ Ok (c.in_ok-kind.kind, chars c.in_ok-kind.after.now) = search rules in
    let some : 0 < length c.pieces.rest.now = grind (arith, nat_tests) in
    let utf8 : IsUtf8 c.in_ok-kind.after.now = search rules in
    let step = read_step c.args.text.now c.pieces.tokens c.pieces.place c.pieces.rest.now c.in_ok-kind.after.now c.in_ok-kind.kind c.pieces.invariant.1 c.pieces.invariant.0 utf8 (some_from_length c.pieces.rest.now some) e in
    let end = c.pieces.place + (length c.pieces.rest.now - length c.in_ok-kind.after.now) in
    (utf8, subst (λ (ts : List Token). IsRead c.args.text.now ts end c.in_ok-kind.after.now) (sym c.in_ok-add.ensures.ok) step)

pub returns-in_err-kind : goal.returns-in_err-kind
returns-in_err-kind c =
    let some : 0 < length c.pieces.rest.now = grind (arith, nat_tests) in
    let p = err_from_is_err_and c.from_residual.result c.from_residual.ensures.1 in
    rw (p.1, p.2) (λ _. read_fail c.args.text.now c.pieces.tokens c.pieces.place c.pieces.rest.now c.in_err-kind.field-0.0 c.pieces.invariant.1 c.pieces.invariant.0 (some_from_length c.pieces.rest.now some) (search rules))
