use Rattle.std.proofs.Common.{◌∙◌, sym, ap, arith}
use Rattle.std.specs.Prelude.{bytes_eq}
use Rattle.og_small.proofs.MeaningLemmas.{choice_at_later, choice_at_end}
use Rattle.og_small.proofs.pay.choice_at.Goals as goal

pub lines-preserved : goal.lines-preserved
lines-preserved c =
    choice_at_later c.args.lines.now c.args.choices.now c.args.output.now c.lines.i c.index-lines-i.result (omega arith) (omega arith) c.index-lines-i.is
    (c.if-eq.ensures ∙ ap (λ n. bytes_eq n c.args.output.now) c.as_slice.ensures)
    ∙ c.lines.invariant

pub returns : goal.returns
returns c = sym (choice_at_end c.args.lines.now c.args.choices.now c.args.output.now c.lines.i (omega arith)) ∙ c.lines.invariant
