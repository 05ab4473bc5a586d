use Rattle.std.proofs.Common.{◌+◌, ◌++◌, ◌∙◌, ap, sym, arith}
use Rattle.og_small.specs.Meaning.{deviations_at}
use Rattle.og_small.proofs.MeaningLemmas.{numbered_more}
use Rattle.og_small.proofs.deviations.find_deviations.Goals as goal

pub lines-preserved : goal.lines-preserved
lines-preserved c =
    c.in_ok-add_line.ensures
    ∙ ap (λ found. found ++ deviations_at c.args.game.now c.args.choices.now (c.lines.i + 1, c.index-lines-i.result)) c.lines.invariant
    ∙ sym (numbered_more (deviations_at c.args.game.now c.args.choices.now) c.as_slice-lines.result.now 1 c.lines.i c.index-lines-i.result (omega arith) c.index-lines-i.is)
