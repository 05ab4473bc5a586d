use Rattle.std.proofs.Common.{arith, subst}
use Rattle.std.proofs.lemmas.Option.{slice_get-get_or}
use Rattle.og_syntax.specs.Counts.{Passes}
use Rattle.og_syntax.proofs.Walks.{Come, come_on, deep_nowhere}
use Rattle.og_syntax.proofs.depth.first_deep.Goals as goal

pub tokens-preserved : goal.tokens-preserved
tokens-preserved c =
    come_on c.args.tokens.now c.tokens.at _ c.tokens.depth c.tokens.counts c.in-Some.after c.pass.new.counts
    c.tokens-test.true (slice_get-get_or c.args.tokens.now c.tokens.at _ c.tokens-test.true) c.pass.array_long c.tokens.invariant
    (subst (λ r. Passes r c.tokens.depth c.tokens.counts c.in-Some.after c.pass.new.counts) c.of.ensures c.in-Some.ensures)

pub returns : goal.returns
returns c =
    deep_nowhere c.args.tokens.now c.tokens.depth c.tokens.counts
    (subst (λ n. Come c.args.tokens.now n c.tokens.depth c.tokens.counts) (omega arith) c.tokens.invariant)
