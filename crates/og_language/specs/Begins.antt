-- The terminals with which each nonterminal begins.
use Rattle.std.specs.Prelude.{Bool, true, false, List, [], ◌∷◌}
use Rattle.og_lex.specs.declared.token.Word.TheVariants as words
use Rattle.og_lex.specs.declared.token.Mark.TheVariants as marks
use Rattle.og_grammar.specs.declared.terminal.Terminal.{Terminal}
use Rattle.og_grammar.specs.declared.terminal.Terminal.TheVariants as terminals
use Rattle.og_grammar.specs.Reading.{Tables}
use Rattle.og_language.specs.Symbols.{Symbol, symbols, type_of_values, value, expression, game}

unfoldable pub type_begins : List Terminal
type_begins =
    terminals.Name ∷ terminals.Word words.Bool ∷ terminals.Word words.Number ∷ terminals.Mark marks.Minus
    ∷ terminals.Number ∷ terminals.Mark marks.LeftParen ∷ []

unfoldable pub value_begins : List Terminal
value_begins =
    terminals.Name ∷ terminals.Word words.True ∷ terminals.Word words.False ∷ terminals.Mark marks.Minus
    ∷ terminals.Number ∷ terminals.Mark marks.LeftParen ∷ []

-- a part of an expression that no operation stands in front of
unfoldable pub primary_begins : List Terminal
primary_begins =
    terminals.Name ∷ terminals.Under ∷ terminals.Word words.True ∷ terminals.Word words.False
    ∷ terminals.Mark marks.LeftParen ∷ terminals.Word words.If ∷ terminals.Word words.Table
    ∷ terminals.Word words.Ratio ∷ terminals.Word words.Min ∷ terminals.Word words.Max
    ∷ terminals.Word words.Clamp ∷ []

unfoldable pub operand_begins : List Terminal
operand_begins = terminals.Mark marks.Minus ∷ terminals.Number ∷ primary_begins

unfoldable pub expression_begins : List Terminal
expression_begins = terminals.Word words.Not ∷ operand_begins

unfoldable pub plain_game_begins : List Terminal
plain_game_begins =
    terminals.Name ∷ terminals.Mark marks.LeftParen ∷ terminals.Word words.Block
    ∷ terminals.Word words.DependentDecision ∷ terminals.Word words.Nature
    ∷ terminals.Word words.ForwardFunction ∷ terminals.Word words.BackwardFunction
    ∷ terminals.Word words.Identity ∷ terminals.Word words.Library ∷ []

abbrev pub game_begins : Bool → List Terminal
game_begins true = terminals.Word words.Branch ∷ plain_game_begins
game_begins false = plain_game_begins

-- ---- the operations with which an expression or a game goes on

unfoldable pub operators : List Terminal
operators =
    terminals.Mark marks.Dot ∷ terminals.Mark marks.Star ∷ terminals.Mark marks.Slash ∷ terminals.Mark marks.Plus
    ∷ terminals.Mark marks.Minus ∷ terminals.Mark marks.Equal ∷ terminals.Mark marks.Differs
    ∷ terminals.Mark marks.Less ∷ terminals.Mark marks.AtMost ∷ terminals.Mark marks.Greater
    ∷ terminals.Mark marks.AtLeast ∷ terminals.Word words.And ∷ terminals.Word words.Or
    ∷ terminals.Mark marks.LeftParen ∷ []

unfoldable pub compositions : List Terminal
compositions =
    terminals.Mark marks.Then ∷ terminals.Mark marks.Beside ∷ terminals.Mark marks.LeftParen
    ∷ terminals.Word words.Among ∷ []

abbrev pub begins : Symbol → List Terminal
begins type_of_values = type_begins
begins value = value_begins
begins expression = expression_begins
begins (game branches) = game_begins branches

abbrev pub goes_on : Symbol → List Terminal
goes_on type_of_values = []
goes_on value = []
goes_on expression = operators
goes_on (game branches) = compositions

abbrev pub tables : Tables symbols
tables = record { first_terminals = begins; more_terminals = goes_on }
