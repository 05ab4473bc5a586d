-- The nonterminals of the language: what may stand in itself.
use Rattle.std.specs.Prelude.{Bool}
use Rattle.og_grammar.specs.Rule.{Nonterminals}
use Rattle.og_syntax.specs.declared.types.TyTree.{TyTree}
use Rattle.og_syntax.specs.declared.values.ValueTree.{ValueTree}
use Rattle.og_syntax.specs.declared.expressions.ExprTree.{ExprTree}
use Rattle.og_syntax.specs.declared.games.GameTree.{GameTree}

pub data Symbol : Type 0 where
  type_of_values : Symbol
  value : Symbol
  expression : Symbol
  -- a game, and whether branches may stand in it
  game : Bool → Symbol

abbrev pub TreeOf : Symbol → Type 0
TreeOf type_of_values = TyTree
TreeOf value = ValueTree
TreeOf expression = ExprTree
TreeOf (game branches) = GameTree

abbrev pub symbols : Nonterminals
symbols = record { Symbol = Symbol; Value = TreeOf }
