use Rattle.std.proofs.Common.{◌≡◌, ◌^◌, ℕ, List, sym, ap, ◌∙◌, subst}
use Rattle.std.specs.Prelude.{Some, None, Ok}
use Rattle.std.specs.Str.{chars}
use Rattle.std.specs.Str.Parse.{ParsesUnsigned}
use Rattle.std.proofs.lemmas.Bool.{cond-true, cond-false, lt-ltb, le-ltb}
use Rattle.og_lex.specs.declared.token.Kind.TheVariants as kinds
use Rattle.og_lex.specs.Characters.{has, run, behind, is_digit}
use Rattle.og_lex.specs.LeftToRight.{number_at, number_of, number_or_fault}
use Rattle.og_lex.proofs.Numbers.{number_parsed, below}
use Rattle.og_lex.proofs.reader.number_at.Goals.{in_default-via-in-Ok+else-value-lt-NUMBER_LIMIT, in_default-via-in_default}
use Rattle.og_lex.proofs.reader.number_at.Goals as goal

-- what was parsed, in terms of the characters
value_of : (c : goal.After-rest-in-Ok-1) → number_of (run is_digit (chars c.args.text.now)) ≡ below c.parse.result
unfolding has
value_of c =
    number_parsed (chars c.args.text.now) c.parse.result (subst (λ (bytes : List ℕ). ParsesUnsigned 64 10 bytes c.parse.result) c.cut.ensures.front c.parse.ensures.value.0)

pub returns-in-Ok-clause-cases : goal.returns-in-Ok-clause-cases
unfolding number_at has
returns-in-Ok-clause-cases c =
    let read = value_of c ∙ ap below c.in-Ok.is ∙ cond-true _ (Some c.in-Ok.value) None (lt-ltb c.in-Ok.value (2 ^ 63) c.if-value-lt-NUMBER_LIMIT.true) in
    ap (λ o. number_or_fault c.args.place o (behind is_digit (chars c.args.text.now))) read
    ∙ ap (λ (rest : List ℕ). Ok (kinds.Number c.in-Ok.value, rest)) (sym c.cut.ensures.rest)

pub returns-in_default-clause-cases : goal.returns-in_default-clause-cases
unfolding number_at has
returns-in_default-clause-cases c =
    let read : number_of (run is_digit (chars c.args.text.now)) ≡ below c.parse.result =
    number_parsed (chars c.args.text.now) c.parse.result (subst (λ (bytes : List ℕ). ParsesUnsigned 64 10 bytes c.parse.result) c.cut.ensures.front c.parse.ensures.value.0) in
    elim c.in_default.branch [
      | in_default-via-in-Ok+else-value-lt-NUMBER_LIMIT w ↦
          ap (λ o. number_or_fault c.args.place o (behind is_digit (chars c.args.text.now))) (read ∙ ap below w.in-Ok.is ∙ cond-false _ (Some w.in-Ok.value) None (le-ltb w.in-Ok.value (2 ^ 63) w.if-value-lt-NUMBER_LIMIT.false))
      | in_default-via-in_default w ↦
          ap (λ o. number_or_fault c.args.place o (behind is_digit (chars c.args.text.now))) (read ∙ ap below w.in_default.is)
    ]
