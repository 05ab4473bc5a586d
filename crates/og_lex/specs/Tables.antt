-- How the reserved words and the marks are written.
use Rattle.std.specs.Prelude.{ℕ, List, [], ◌∷◌, codes}
use Rattle.og_lex.specs.declared.token.Word.{Word}
use Rattle.og_lex.specs.declared.token.Word.TheVariants as words
use Rattle.og_lex.specs.declared.token.Mark.{Mark}
use Rattle.og_lex.specs.declared.token.Mark.TheVariants as marks

unfoldable pub word_text : Word → List ℕ
word_text words.«Type» = codes "type"
word_text words.Fn = codes "fn"
word_text words.Game = codes "game"
word_text words.Block = codes "block"
word_text words.Inputs = codes "inputs"
word_text words.Feedback = codes "feedback"
word_text words.Operation = codes "operation"
word_text words.Outputs = codes "outputs"
word_text words.Returns = codes "returns"
word_text words.DependentDecision = codes "dependentDecision"
word_text words.Nature = codes "nature"
word_text words.ForwardFunction = codes "forwardFunction"
word_text words.BackwardFunction = codes "backwardFunction"
word_text words.Identity = codes "identity"
word_text words.Library = codes "library"
word_text words.If = codes "if"
word_text words.Then = codes "then"
word_text words.Elif = codes "elif"
word_text words.Else = codes "else"
word_text words.End = codes "end"
word_text words.Table = codes "table"
word_text words.And = codes "and"
word_text words.Or = codes "or"
word_text words.Not = codes "not"
word_text words.True = codes "true"
word_text words.False = codes "false"
word_text words.Bool = codes "bool"
word_text words.Number = codes "number"
word_text words.Agent = codes "agent"
word_text words.Ratio = codes "ratio"
word_text words.Min = codes "min"
word_text words.Max = codes "max"
word_text words.Clamp = codes "clamp"
word_text words.Strategy = codes "strategy"
word_text words.Among = codes "among"
word_text words.Branch = codes "branch"
word_text words.Version = codes "version"

unfoldable pub mark_text : Mark → List ℕ
mark_text marks.LeftBrace = codes "{"
mark_text marks.RightBrace = codes "}"
mark_text marks.LeftParen = codes "("
mark_text marks.RightParen = codes ")"
mark_text marks.LeftBracket = codes "["
mark_text marks.RightBracket = codes "]"
mark_text marks.Comma = codes ","
mark_text marks.Semicolon = codes ";"
mark_text marks.Colon = codes ":"
mark_text marks.Dot = codes "."
mark_text marks.DotDot = codes ".."
mark_text marks.Arrow = codes "->"
mark_text marks.Assign = codes "="
mark_text marks.Equal = codes "=="
mark_text marks.Differs = codes "!="
mark_text marks.Less = codes "<"
mark_text marks.AtMost = codes "<="
mark_text marks.Greater = codes ">"
mark_text marks.AtLeast = codes ">="
mark_text marks.Plus = codes "+"
mark_text marks.Minus = codes "-"
mark_text marks.Star = codes "*"
mark_text marks.Slash = codes "/"
mark_text marks.Then = codes ">>>"
mark_text marks.Beside = codes "&&&"

-- every reserved word
unfoldable pub all_words : List Word
all_words =
    words.«Type» ∷ words.Fn ∷ words.Game ∷ words.Block ∷ words.Inputs ∷ words.Feedback ∷ words.Operation
    ∷ words.Outputs ∷ words.Returns ∷ words.DependentDecision ∷ words.Nature ∷ words.ForwardFunction
    ∷ words.BackwardFunction ∷ words.Identity ∷ words.Library ∷ words.If ∷ words.Then ∷ words.Elif
    ∷ words.Else ∷ words.End ∷ words.Table ∷ words.And ∷ words.Or ∷ words.Not ∷ words.True ∷ words.False
    ∷ words.Bool ∷ words.Number ∷ words.Agent ∷ words.Ratio ∷ words.Min ∷ words.Max ∷ words.Clamp
    ∷ words.Strategy ∷ words.Among ∷ words.Branch ∷ words.Version ∷ []

-- every mark, the longest first
unfoldable pub all_marks : List Mark
all_marks =
    marks.Then ∷ marks.Beside ∷ marks.DotDot ∷ marks.Arrow ∷ marks.Equal ∷ marks.Differs ∷ marks.AtMost
    ∷ marks.AtLeast ∷ marks.LeftBrace ∷ marks.RightBrace ∷ marks.LeftParen ∷ marks.RightParen
    ∷ marks.LeftBracket ∷ marks.RightBracket ∷ marks.Comma ∷ marks.Semicolon ∷ marks.Colon ∷ marks.Dot
    ∷ marks.Assign ∷ marks.Less ∷ marks.Greater ∷ marks.Plus ∷ marks.Minus ∷ marks.Star ∷ marks.Slash
    ∷ []
