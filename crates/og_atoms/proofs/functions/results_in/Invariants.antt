use Rattle.std.proofs.Common.{◌≡◌, [], drop}
use Rattle.og_inlining.specs.Steps.{each_of}
use Rattle.og_inlining.specs.Seen.{seen_of}
use Rattle.og_atoms.specs.Atoms.{result_in}
use Rattle.og_atoms.proofs.functions.results_in.Given as goal

abbrev pub invariant-results : goal.invariant-results
invariant-results l =
    each_of (result_in (seen_of l.seen)) l.all (drop l.result-index l.results)
    ≡ each_of (result_in (seen_of l.seen)) [] l.results
