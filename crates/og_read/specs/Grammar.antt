-- The language of small games and the language of strategies.
use Rattle.std.specs.Prelude.{ℕ, ◌-◌, Bool, List, length, take, drop, codes}
use Rattle.std.specs.Str.{bytes_eq}
use Rattle.og_lex.specs.declared.token.Mark.TheVariants.{LeftBrace, RightBrace, LeftParen, RightParen, LeftBracket, RightBracket, Semicolon, Colon, Arrow, Assign}
use Rattle.og_lex.specs.declared.token.Word.{Word}
use Rattle.og_lex.specs.declared.token.Word.TheVariants as w
use Rattle.og_small.specs.declared.tree.SmallGame.{SmallGame}
use Rattle.og_small.specs.declared.tree.TypeDecl.{TypeDecl}
use Rattle.og_small.specs.declared.tree.Line.{Line}
use Rattle.og_small.specs.declared.tree.Key.{Key}
use Rattle.og_small.specs.declared.tree.Row.{Row}
use Rattle.og_small.specs.declared.tree.Section.{Section}
use Rattle.og_grammar.specs.declared.terminal.Terminal.TheVariants as terminals
use Rattle.og_grammar.specs.Lexeme.{Lexeme}
use Rattle.og_grammar.specs.Rule.{one, seq, star, map}
use Rattle.og_grammar.specs.Rule as grammar
use Rattle.og_grammar.specs.Alone.{none, alone}
use Rattle.og_grammar.specs.Levels.{readers}
use Rattle.og_grammar.specs.Reading.{Readers}
use Rattle.og_grammar.specs.Combinators.{place_of, spelling_of, number, word, mark, behind, before, within, opt, commas}

-- a rule of these languages, which have no nonterminals, and how it is read
abbrev pub Rule : Type 0 → Type 1
Rule A = grammar.Rule none A

abbrev pub reads : Readers none
reads = readers alone 0

-- ---- words of the text

-- the bytes of a text without its quotes
abbrev pub inside_quotes : List ℕ → List ℕ
inside_quotes spelling = take (length spelling - 2) (drop 1 spelling)

abbrev pub is_main : Lexeme → Bool
is_main t = bytes_eq t.spelling (codes "main")

unfoldable pub name : Rule (List ℕ)
name = spelling_of terminals.Name

unfoldable pub quotation : Rule (List ℕ)
quotation = map inside_quotes (spelling_of terminals.Text)

-- the name `main`, as its place
unfoldable pub main : Rule ℕ
main = map (λ t. t.start) (one terminals.Name is_main)

-- Name { "," Name }
unfoldable pub names : Rule (List (List ℕ))
names = commas name

-- ---- types

-- "{" names "}"
unfoldable pub cases : Rule (List (List ℕ))
cases = within (mark LeftBrace) names (mark RightBrace)

-- "type" Name "=" cases ";"
unfoldable pub type_decl : Rule TypeDecl
type_decl =
    map (λ v. record { name = v.0; cases = v.1 })
    (behind (word w.Type) (seq name (behind (mark Assign) (before cases (mark Semicolon)))))

unfoldable pub types : Rule (List TypeDecl)
types = star type_decl

-- ---- tables

-- Name ":" Name
unfoldable pub key : Rule Key
key = map (λ v. record { output = v.0; action = v.1 }) (seq name (behind (mark Colon) name))

-- key { "," key }
unfoldable pub keys : Rule (List Key)
keys = commas key

-- "(" keys ")"
unfoldable pub columns : Rule (List Key)
columns = within (mark LeftParen) keys (mark RightParen)

-- "(" names ")"
unfoldable pub outcome : Rule (List (List ℕ))
outcome = within (mark LeftParen) names (mark RightParen)

-- outcome "->" Number ";"
unfoldable pub row : Rule Row
row =
    map (λ v. record { cases = v.0; pay = v.1 })
    (seq outcome (behind (mark Arrow) (before number (mark Semicolon))))

unfoldable pub rows : Rule (List Row)
rows = star row

-- "{" rows "}"
unfoldable pub rows_inside : Rule (List Row)
rows_inside = within (mark LeftBrace) rows (mark RightBrace)

-- "table" columns rows_inside ";"
unfoldable pub table : Rule (List Key × List Row)
table = behind (word w.Table) (seq columns (before rows_inside (mark Semicolon)))

-- ---- lines

-- [ word ":" ";" ]
unfoldable pub empty_field : Word → Rule (Unit {0})
empty_field keyword = map (λ _. tt) (opt (behind (word keyword) (seq (mark Colon) (mark Semicolon))))

-- "dependentDecision" Text "[" "]" Name, for the agent and the type
unfoldable pub decision : Rule (List ℕ × List ℕ)
decision =
    behind (word w.DependentDecision)
    (seq quotation (behind (mark LeftBracket) (behind (mark RightBracket) name)))

-- "operation" ":" decision ";"
unfoldable pub operation : Rule (List ℕ × List ℕ)
operation = behind (word w.Operation) (behind (mark Colon) (before decision (mark Semicolon)))

-- "outputs" ":" Name ";"
unfoldable pub output : Rule (List ℕ)
output = behind (word w.Outputs) (behind (mark Colon) (before name (mark Semicolon)))

-- "returns" ":" table
unfoldable pub payment : Rule (List Key × List Row)
payment = behind (word w.Returns) (behind (mark Colon) table)

abbrev pub line_of : (List ℕ × List ℕ) × (List ℕ × (List Key × List Row)) → Line
line_of v = record { agent = v.0.0; action = v.0.1; output = v.1.0; keys = v.1.1.0; rows = v.1.1.1 }

-- [ "inputs" ":" ";" ] [ "feedback" ":" ";" ] operation output payment
unfoldable pub line : Rule Line
line =
    map line_of
    (behind (empty_field w.Inputs)
    (behind (empty_field w.Feedback) (seq operation (seq output payment))))

unfoldable pub lines : Rule (List Line)
lines = star line

-- ---- games

-- [ "inputs" ":" ";" ] [ "feedback" ":" ";" ] Separator
unfoldable pub head : Rule ℕ
head = behind (empty_field w.Inputs) (behind (empty_field w.Feedback) (place_of terminals.Separator))

-- Separator [ "outputs" ":" ";" ] [ "returns" ":" ";" ]
unfoldable pub foot : Rule ℕ
foot = before (place_of terminals.Separator) (seq (empty_field w.Outputs) (empty_field w.Returns))

-- head lines foot
unfoldable pub parts : Rule (List Line)
parts = within head lines foot

-- "block" "{" parts "}"
unfoldable pub block : Rule (List Line)
block = behind (word w.Block) (within (mark LeftBrace) parts (mark RightBrace))

-- "game" "main" "="
unfoldable pub title : Rule ℕ
title = behind (word w.Game) (before main (mark Assign))

-- types title block ";"
unfoldable pub game : Rule SmallGame
game =
    map (λ v. record { types = v.0; lines = v.1 })
    (seq types (behind title (before block (mark Semicolon))))

-- ---- strategies

-- "(" ")" "->" Name ";"
unfoldable pub choice : Rule (List ℕ)
choice =
    behind (mark LeftParen) (behind (mark RightParen) (behind (mark Arrow) (before name (mark Semicolon))))

-- "strategy" Text "{" choice "}"
unfoldable pub section : Rule Section
section =
    map (λ v. record { agent = v.0; choice = v.1 })
    (behind (word w.Strategy) (seq quotation (within (mark LeftBrace) choice (mark RightBrace))))

unfoldable pub strategy : Rule (List Section)
strategy = star section
