-- Languages without nonterminals.
use Rattle.std.specs.Prelude.{[]}
use Rattle.og_grammar.specs.Rule.{Nonterminals, give}
use Rattle.og_grammar.specs.Levels.{Grammar, IsFine}

-- a type without a value
pub data Nothing : Type 0 where

abbrev pub none : Nonterminals
none = record { Symbol = Nothing; Value = λ n. Nothing }

-- no rule stands in another
abbrev pub alone : Grammar none
alone = record { rule = λ n. give n; tables = record { first_terminals = λ n. []; more_terminals = λ n. [] } }

-- so nothing is asked of them
pub alone_fine : IsFine alone
alone_fine = record {
  filled = λ n. elim n [ ];
  lead = λ n. elim n [ ];
  firsts = λ n. elim n [ ];
  mores = λ n. elim n [ ];
  behind = λ n. elim n [ ];
}
