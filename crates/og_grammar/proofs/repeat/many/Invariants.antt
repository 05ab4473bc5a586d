use Rattle.std.proofs.Common.{◌≡◌, ◌-◌, List}
use Rattle.og_grammar.specs.Lexeme.{Lexeme}
use Rattle.og_grammar.specs.Items.{IsReader}
use Rattle.og_grammar.specs.Reading.{Outcome, with_front, read_each, read_all}
use Rattle.og_grammar.proofs.repeat.many.Given as goal

abbrev pub invariant-turns : goal.invariant-turns
invariant-turns g l =
    (reading : List Lexeme → Outcome g.row.T.Denot) → IsReader l.fn.room (goal.F-post g l.fn.item) reading
    → read_all l.fn.terminals reading l.fn.tokens ≡ with_front l.found (read_each l.fn.terminals reading (l.end - l.counter) l.tokens)
