use Rattle.std.proofs.Common.{◌≡◌, [], ◌∷◌, ◌++◌, ◌∙◌, append_assoc}
use Rattle.std.specs.Prelude.{codes, decimal}
use Rattle.og_small.specs.Report.{count_line}
use Rattle.og_small.proofs.report.push_count.Goals as goal

pub returns : goal.returns
unfolding count_line
returns c =
    let pieces : c.extend_from_slice-2.new.self ≡ ((c.args.out.now ++ codes "deviations ") ++ decimal c.args.count) ++ 10 ∷ [] =
    cc (c.in_ok-extend_from_slice-2.ensures.ok, c.in_ok-push_number.ensures, c.in_ok-extend_from_slice.ensures.ok) in
    pieces ∙ (simp append_assoc)
