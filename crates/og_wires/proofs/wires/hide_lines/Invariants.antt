use Rattle.std.proofs.Common.{◌≡◌, drop}
use Rattle.og_wires.specs.Wires.{hide_lines}
use Rattle.og_wires.proofs.wires.hide_lines.Given as goal

abbrev pub invariant-lines : goal.invariant-lines
invariant-lines l =
    hide_lines l.hidden (drop l.line-index l.lines) ≡ hide_lines l.initial.hidden l.lines
