use Rattle.std.proofs.Common.{◌≡◌, ◌-◌, List, [], ◌∷◌}
use Rattle.og_grammar.specs.Lexeme.{Lexeme}
use Rattle.og_grammar.specs.Items.{IsReader}
use Rattle.og_grammar.specs.Reading.{Outcome, with_front, read_each, read_behind, read_separated_onto}
use Rattle.og_grammar.proofs.repeat.separated_onto.Given as goal

abbrev pub invariant-turns : goal.invariant-turns
invariant-turns g l =
    (reading : List Lexeme → Outcome g.row.T.Denot) → IsReader l.fn.room (goal.F-post g l.fn.item) reading
    → read_separated_onto l.fn.between l.fn.before reading l.fn.tokens ≡ with_front l.found (read_each (l.fn.between ∷ []) (read_behind l.fn.between reading) (l.end - l.counter) l.tokens)
