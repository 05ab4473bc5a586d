use Rattle.std.proofs.Common.{◌≡◌, drop}
use Rattle.og_small.specs.Rules.{all_differ}
use Rattle.og_small.proofs.rules.all_differ.Given as goal

abbrev pub invariant-names : goal.invariant-names
invariant-names l = all_differ (drop l.i l.names) ≡ all_differ l.names
