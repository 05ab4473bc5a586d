use Rattle.std.proofs.Common.{◌≡◌, drop}
use Rattle.std.specs.List.{list_all}
use Rattle.og_small.specs.Rules.{is_line_accepted}
use Rattle.og_small.proofs.rules.are_lines_accepted.Given as goal

abbrev pub invariant-lines : goal.invariant-lines
invariant-lines l = list_all (is_line_accepted l.game) (drop l.line-index l.lines) ≡ list_all (is_line_accepted l.game) l.lines
