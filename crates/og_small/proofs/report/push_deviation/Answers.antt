use Rattle.std.proofs.Common.{◌≡◌, ◌++◌, ◌∙◌, append_assoc}
use Rattle.std.specs.Prelude.{codes}
use Rattle.og_small.specs.Report.{deviation_line, decision, gain}
use Rattle.og_small.proofs.report.push_deviation.Goals as goal

pub returns : goal.returns
unfolding deviation_line
returns c =
    let pieces : c.push_gain.new.out ≡ (((c.args.out.now ++ decision c.args.one.now) ++ codes " at () play ") ++ c.args.one.now.action) ++ gain c.args.one.now =
    cc (c.in_ok-push_gain.ensures, c.in_ok-extend_from_slice-2.ensures.ok, c.in_ok-extend_from_slice.ensures.ok, c.in_ok-push_decision.ensures, c.as_slice.ensures) in
    pieces ∙ (simp append_assoc)
