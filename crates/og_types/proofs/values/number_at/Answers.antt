use Rattle.std.proofs.Common.{◌∙◌, ap, arith, rules}
use Rattle.std.specs.Prelude.{Some, FitsSigned}
use Rattle.std.specs.Int.{w64}
use Rattle.std.proofs.lemmas.Int.{ints}
use Rattle.og_frac.specs.Fraction.{whole}
use Rattle.og_types.specs.declared.value.Value.TheVariants as value
use Rattle.og_types.proofs.ValuesOf.{at_range}
use Rattle.og_types.proofs.values.number_at.Goals as goal

pub returns-then-number-from : goal.returns-then-number-from
returns-then-number-from c =
    let low : FitsSigned w64 c.args.low = search rules in
    let high : FitsSigned w64 c.args.high = search rules in
    let number = c.if-number-from.true in
    ap (λ q. Some (value.Number q)) (c.whole.ensures ∙ ap whole (omega (arith, ints))) ∙ at_range c.args.low c.args.high c.args.r (grind (arith, ints))
