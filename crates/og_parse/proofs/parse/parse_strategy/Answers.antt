use Rattle.std.proofs.Common.{None, Some, Ok, Err, length, refl, subst, sym}
use Rattle.og_lex.specs.Spelling.{IsTokenOf}
use Rattle.og_language.specs.Grammar.{strategy}
use Rattle.og_language.specs.laws.Fine.{strategy_led}
use Rattle.og_parse.specs.Parsed.{IsAtFault}
use Rattle.og_parse.specs.Whole.{fault_of}
use Rattle.og_parse.proofs.Fronts.{tokens_shown, told_by, deep_spelled, fault_told}
use Rattle.og_parse.proofs.parse.parse_strategy.Goals as goal

pub new-rest-requires : goal.new-rest-requires
new-rest-requires c =
    rw (sym c.tokens_through-shown.ensures) at (tokens_shown (IsTokenOf c.args.text.now) c.args.tokens.now c.first_deep-deep.result c.requires.tokens)

pub returns-in-None : goal.returns-in-None
returns-in-None c = (
  refl,
  (
    told_by strategy strategy_led c.args.text.now c.args.tokens.now None _ _ _ _ (Ok c.in-Ok.sections)
        (rw c.in-None.is at c.tokens_through-shown.ensures) c.new-rest.ensures c.strategy-read.ensures c.in-Ok.ensures,
    c.in-None.ensures,
  ),
)

pub returns-in-Some : goal.returns-in-Some
returns-in-Some c =
    deep_spelled strategy c.args.text.now c.args.tokens.now c.in-Some.k c.in-Ok.sections
    (record { deep = c.in-Some.ensures.0; first = c.in-Some.ensures.1 })
    (told_by strategy strategy_led c.args.text.now c.args.tokens.now (Some c.in-Some.k) _ _ _ _ (Ok c.in-Ok.sections)
    (rw c.in-Some.is at c.tokens_through-shown.ensures) c.new-rest.ensures c.strategy-read.ensures c.in-Ok.ensures)

pub returns-in-Err : goal.returns-in-Err
returns-in-Err c =
    subst (IsAtFault strategy c.args.text.now c.args.tokens.now) (sym c.place_fault.ensures)
    (subst
    (λ s. IsAtFault strategy c.args.text.now c.args.tokens.now (fault_of c.in-Err.fault (length s) c.first_deep-deep.result))
    (sym c.tokens_through-shown.ensures)
    (fault_told strategy c.args.text.now c.args.tokens.now c.first_deep-deep.result c.in-Err.fault c.first_deep-deep.ensures
    (told_by strategy strategy_led c.args.text.now c.args.tokens.now c.first_deep-deep.result _ _ _ _ (Err c.in-Err.fault)
    c.tokens_through-shown.ensures c.new-rest.ensures c.strategy-read.ensures c.in-Err.ensures)))
