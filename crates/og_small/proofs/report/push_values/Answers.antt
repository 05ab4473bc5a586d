use Rattle.std.proofs.Common.{◌≡◌, ◌++◌, ◌∙◌, ap, sym, take, false, true}
use Rattle.std.specs.Prelude.{flat_map}
use Rattle.std.proofs.lemmas.List.{flat_map_more}
use Rattle.og_small.specs.Meaning.{agents, has_agent}
use Rattle.og_small.specs.Report.{value_line}
use Rattle.og_small.proofs.MeaningLemmas.{agents_new, agents_known}
use Rattle.og_small.proofs.report.push_values.Goals as goal
use Rattle.og_small.proofs.report.push_values.Goals.{then-not-has_agent+in_ok-push_value, else-not-has_agent}

pub lines-preserved : goal.lines-preserved
lines-preserved c = elim c.if-not-has_agent.branch [
  | then-not-has_agent+in_ok-push_value w ↦
      let new : has_agent (take c.lines.i c.as_slice-lines.result.now) c.index-lines-i.result.agent ≡ false =
      cc (c.has_agent.ensures, w.if-not-has_agent.true, c.as_slice.ensures) in
      let out : c.if-not-has_agent.out ≡ (c.args.out.now ++ flat_map (value_line c.args.game.now c.args.choices.now) (agents (take c.lines.i c.as_slice-lines.result.now)))
      ++ value_line c.args.game.now c.args.choices.now c.index-lines-i.result.agent =
      cc (w.out-is, w.in_ok-push_value.ensures, c.lines.invariant, w.as_slice-then-not-has_agent.ensures) in
      out
      ∙ flat_map_more (value_line c.args.game.now c.args.choices.now) c.args.out.now (agents (take c.lines.i c.as_slice-lines.result.now)) c.index-lines-i.result.agent
      ∙ ap (λ names. c.args.out.now ++ flat_map (value_line c.args.game.now c.args.choices.now) names)
      (sym (agents_new c.as_slice-lines.result.now c.lines.i c.index-lines-i.result c.lines-test.true c.index-lines-i.is new))
  | else-not-has_agent w ↦
      let known : has_agent (take c.lines.i c.as_slice-lines.result.now) c.index-lines-i.result.agent ≡ true =
      cc (c.has_agent.ensures, w.if-not-has_agent.false, c.as_slice.ensures) in
      w.out-is ∙ c.lines.invariant
      ∙ ap (λ names. c.args.out.now ++ flat_map (value_line c.args.game.now c.args.choices.now) names)
      (sym (agents_known c.as_slice-lines.result.now c.lines.i c.index-lines-i.result c.lines-test.true c.index-lines-i.is known))
]
