-- The grammar of the language: a rule for each part of a text, in the order in which a text is built up from its
-- parts. Above each rule stands what it spells: words in quotes are tokens, [ a ] is optional, { a } is any number
-- of times.
use Rattle.std.specs.Prelude.{ℕ, ℤ, pos, Bool, true, false, not, ◌==◌, List, Option, ◌⊎◌}
use Rattle.std.proofs.Common.{inl, inr}
use Rattle.og_lex.specs.declared.token.Word.{Word}
use Rattle.og_lex.specs.declared.token.Word.TheVariants as w
use Rattle.og_lex.specs.declared.token.Mark.TheVariants as m
use Rattle.og_grammar.specs.declared.terminal.Terminal.TheVariants as terminals
use Rattle.og_grammar.specs.Rule.{Rule, one, seq, alt, star, map, at, hole}
use Rattle.og_grammar.specs.Combinators.{place_of, spelling_of, quoted, number, word, mark, behind, before, within, opt, separated, commas, two_or_more, commas_or_none}
use Rattle.og_syntax.specs.declared.types.NameTree.{NameTree}
use Rattle.og_syntax.specs.declared.types.ParamTree.{ParamTree}
use Rattle.og_syntax.specs.declared.types.TyTree.{TyTree}
use Rattle.og_syntax.specs.declared.types.TyTree.TheVariants as tys
use Rattle.og_syntax.specs.declared.values.ValueTree.{ValueTree}
use Rattle.og_syntax.specs.declared.values.ValueTree.TheVariants as values
use Rattle.og_syntax.specs.declared.values.RowTree.{RowTree}
use Rattle.og_syntax.specs.declared.values.EntryTree.{EntryTree}
use Rattle.og_syntax.specs.declared.expressions.ExprTree.{ExprTree}
use Rattle.og_syntax.specs.declared.expressions.ExprTree.TheVariants as exprs
use Rattle.og_syntax.specs.declared.expressions.CompareOp.{CompareOp}
use Rattle.og_syntax.specs.declared.expressions.CompareOp.TheVariants as ops
use Rattle.og_syntax.specs.declared.expressions.SumPart.{SumPart}
use Rattle.og_syntax.specs.declared.expressions.SumPart.TheVariants as sums
use Rattle.og_syntax.specs.declared.expressions.ProductPart.{ProductPart}
use Rattle.og_syntax.specs.declared.expressions.ProductPart.TheVariants as products
use Rattle.og_syntax.specs.declared.expressions.IfArm.{IfArm}
use Rattle.og_syntax.specs.declared.expressions.ResultTree.{ResultTree}
use Rattle.og_syntax.specs.declared.expressions.TableRow.{TableRow}
use Rattle.og_syntax.specs.declared.games.AgentTree.{AgentTree}
use Rattle.og_syntax.specs.declared.games.AgentTree.TheVariants as agents
use Rattle.og_syntax.specs.declared.games.ArgTree.{ArgTree}
use Rattle.og_syntax.specs.declared.games.ArgTree.TheVariants as args
use Rattle.og_syntax.specs.declared.games.Among.{Among}
use Rattle.og_syntax.specs.declared.games.AmongTree.{AmongTree}
use Rattle.og_syntax.specs.declared.games.ArmTree.{ArmTree}
use Rattle.og_syntax.specs.declared.games.BlockTree.{BlockTree}
use Rattle.og_syntax.specs.declared.games.LineTree.{LineTree}
use Rattle.og_syntax.specs.declared.games.GameTree.{GameTree}
use Rattle.og_syntax.specs.declared.games.GameTree.TheVariants as games
use Rattle.og_syntax.specs.declared.declarations.Decl.{Decl}
use Rattle.og_syntax.specs.declared.declarations.Decl.TheVariants as decls
use Rattle.og_syntax.specs.declared.declarations.GameParam.{GameParam}
use Rattle.og_syntax.specs.declared.declarations.ParamKind.{ParamKind}
use Rattle.og_syntax.specs.declared.declarations.ParamKind.TheVariants as kinds
use Rattle.og_syntax.specs.declared.strategies.Section.{Section}
use Rattle.og_language.specs.Symbols.{symbols, type_of_values, value, expression, game}
use Rattle.og_language.specs.Trees.{signed, one_or, grouped, compare_of, sum_of, product_of, negated, field_of, named_of, entry_of, seq_onto, par_onto, or_empty}

-- a rule of this language
abbrev pub Spells : Type 0 → Type 1
Spells A = Rule symbols A

-- ---- names and numbers

unfoldable pub name : Spells (List ℕ)
name = spelling_of terminals.Name

-- Name | Under
unfoldable pub variable : Spells (List ℕ)
variable = alt (spelling_of terminals.Name) (spelling_of terminals.Under)

-- a variable, or a case, with its place
unfoldable pub name_tree : Spells NameTree
name_tree = map (λ v. record { at = v.0; name = v.1 }) (at variable)

-- NONZERO
unfoldable pub nonzero : Spells ℕ
nonzero = map (λ t. t.value) (one terminals.Number (λ t. not (t.value == 0)))

-- [ "-" ] Number
unfoldable pub bound : Spells ℤ
bound = map (λ v. signed v.0 v.1) (seq (opt (mark m.Minus)) number)

-- ---- types

abbrev pub ty : Spells TyTree
ty = hole type_of_values

-- bound ".." bound
unfoldable pub range : Spells TyTree
range = map (λ v. tys.Range v.0 v.1.0 v.1.1) (at (seq bound (behind (mark m.DotDot) bound)))

-- type "," type { "," type }
unfoldable pub type_parts : Spells (List TyTree)
type_parts = two_or_more ty

-- "(" type_parts ")"
unfoldable pub tuple_type : Spells TyTree
tuple_type = map (λ v. tys.Tuple v.0 v.1) (seq (mark m.LeftParen) (before type_parts (mark m.RightParen)))

-- Name | "bool" | "number" | range | tuple_type
unfoldable pub type_rule : Spells TyTree
type_rule =
    alt (map (λ v. tys.Name v.0 v.1) (at name))
    (alt (map tys.Bool (word w.Bool)) (alt (map tys.Number (word w.Number)) (alt range tuple_type)))

-- [ type { "," type } ]
unfoldable pub types_or_none : Spells (List TyTree)
types_or_none = commas_or_none ty

-- "[" types_or_none "]"
unfoldable pub type_list : Spells (List TyTree)
type_list = within (mark m.LeftBracket) types_or_none (mark m.RightBracket)

-- var ":" type
unfoldable pub param : Spells ParamTree
param =
    map (λ v. record { at = v.0; name = v.1.0; ty = v.1.1 })
    (at (seq variable (behind (mark m.Colon) ty)))

-- [ param { "," param } ]
unfoldable pub params : Spells (List ParamTree)
params = commas_or_none param

-- ---- values

abbrev pub value_part : Spells ValueTree
value_part = hole value

-- value "," value { "," value }
unfoldable pub value_parts : Spells (List ValueTree)
value_parts = two_or_more value_part

-- "(" value_parts ")"
unfoldable pub tuple_value : Spells ValueTree
tuple_value = map (λ v. values.Tuple v.0 v.1) (seq (mark m.LeftParen) (before value_parts (mark m.RightParen)))

-- Name | "true" | "false" | bound | tuple_value
unfoldable pub value_rule : Spells ValueTree
value_rule =
    alt (map (λ v. values.Name v.0 v.1) (at name))
    (alt (map (λ place. values.Flag place true) (word w.True))
    (alt (map (λ place. values.Flag place false) (word w.False))
    (alt (map (λ v. values.Number v.0 v.1) (at bound)) tuple_value)))

-- [ value { "," value } ]
unfoldable pub values_or_none : Spells (List ValueTree)
values_or_none = commas_or_none value_part

-- "(" values_or_none ")", with its place
unfoldable pub key : Spells (ℕ × List ValueTree)
key = seq (mark m.LeftParen) (before values_or_none (mark m.RightParen))

-- value { "," value }
unfoldable pub some_values : Spells (List ValueTree)
some_values = commas value_part

-- ":" Number [ "/" NONZERO ]
unfoldable pub weight : Spells (ℕ × Option ℕ)
weight = behind (mark m.Colon) (seq number (opt (behind (mark m.Slash) nonzero)))

-- value [ weight ]
unfoldable pub entry : Spells EntryTree
entry = map (λ v. entry_of v.0 v.1) (seq value_part (opt weight))

-- entry { "," entry }
unfoldable pub entries : Spells (List EntryTree)
entries = commas entry

-- key "->" entries ";"
unfoldable pub row : Spells RowTree
row =
    map (λ v. record { at = v.0.0; key = v.0.1; entries = v.1 })
    (seq key (behind (mark m.Arrow) (before entries (mark m.Semicolon))))

-- { row }
unfoldable pub rows_or_none : Spells (List RowTree)
rows_or_none = star row

-- "{" rows_or_none "}"
unfoldable pub rows : Spells (List RowTree)
rows = within (mark m.LeftBrace) rows_or_none (mark m.RightBrace)

-- ---- expressions

abbrev pub expr : Spells ExprTree
expr = hole expression

-- [ expr { "," expr } ]
unfoldable pub exprs_or_none : Spells (List ExprTree)
exprs_or_none = commas_or_none expr

-- "(" exprs_or_none ")"
unfoldable pub args_in_brackets : Spells (List ExprTree)
args_in_brackets = within (mark m.LeftParen) exprs_or_none (mark m.RightParen)

-- Name [ args_in_brackets ]
unfoldable pub named : Spells ExprTree
named = map (λ v. named_of v.0 v.1.0 v.1.1) (at (seq name (opt args_in_brackets)))

-- expr { "," expr }
unfoldable pub some_exprs : Spells (List ExprTree)
some_exprs = commas expr

-- "(" some_exprs ")", a tuple where there are two or more
unfoldable pub group : Spells ExprTree
group = map (λ v. grouped v.0 v.1) (seq (mark m.LeftParen) (before some_exprs (mark m.RightParen)))

-- expr "then" expr
unfoldable pub arm : Spells (IfArm ExprTree)
arm = map (λ v. record { cond = v.0; body = v.1 }) (seq expr (behind (word w.Then) expr))

-- arm { "elif" arm }
unfoldable pub arms : Spells (List (IfArm ExprTree))
arms = separated (terminals.Word w.Elif) arm

-- "else" expr "end"
unfoldable pub otherwise : Spells ExprTree
otherwise = within (word w.Else) expr (word w.End)

-- "if" arms otherwise
unfoldable pub choice : Spells ExprTree
choice = map (λ v. exprs.If v.0 v.1.0 v.1.1) (seq (word w.If) (seq arms otherwise))

-- expr ":" type
unfoldable pub result : Spells (ResultTree ExprTree)
result = map (λ v. record { expr = v.0; ty = v.1 }) (seq expr (behind (mark m.Colon) ty))

-- "(" some_values ")", with its place
unfoldable pub table_key : Spells (ℕ × List ValueTree)
table_key = seq (mark m.LeftParen) (before some_values (mark m.RightParen))

-- table_key "->" expr ";"
unfoldable pub table_row : Spells (TableRow ExprTree)
table_row =
    map (λ v. record { at = v.0.0; key = v.0.1; body = v.1 })
    (seq table_key (behind (mark m.Arrow) (before expr (mark m.Semicolon))))

-- result { "," result }
unfoldable pub some_results : Spells (List (ResultTree ExprTree))
some_results = commas result

-- "(" some_results ")"
unfoldable pub table_keys : Spells (List (ResultTree ExprTree))
table_keys = within (mark m.LeftParen) some_results (mark m.RightParen)

-- { table_row }
unfoldable pub table_rows_or_none : Spells (List (TableRow ExprTree))
table_rows_or_none = star table_row

-- "{" table_rows_or_none "}"
unfoldable pub table_rows : Spells (List (TableRow ExprTree))
table_rows = within (mark m.LeftBrace) table_rows_or_none (mark m.RightBrace)

-- "table" table_keys table_rows
unfoldable pub table : Spells ExprTree
table = map (λ v. exprs.Table v.0 v.1.0 v.1.1) (seq (word w.Table) (seq table_keys table_rows))

-- expr "," expr
unfoldable pub two_exprs : Spells (ExprTree × ExprTree)
two_exprs = seq expr (behind (mark m.Comma) expr)

-- "(" two_exprs ")"
unfoldable pub pair : Spells (ExprTree × ExprTree)
pair = within (mark m.LeftParen) two_exprs (mark m.RightParen)

-- "(" expr "," two_exprs ")"
unfoldable pub triple : Spells (ExprTree × (ExprTree × ExprTree))
triple = within (mark m.LeftParen) (seq expr (behind (mark m.Comma) two_exprs)) (mark m.RightParen)

-- "ratio" triple
unfoldable pub ratio : Spells ExprTree
ratio = map (λ v. exprs.Ratio v.0 v.1.0 v.1.1.0 v.1.1.1) (seq (word w.Ratio) triple)

-- "min" pair | "max" pair
unfoldable pub extremum : Spells ExprTree
extremum =
    alt (map (λ v. exprs.Min v.0 v.1.0 v.1.1) (seq (word w.Min) pair))
    (map (λ v. exprs.Max v.0 v.1.0 v.1.1) (seq (word w.Max) pair))

-- bound ".." bound, with its place
unfoldable pub limits : Spells (ℕ × (ℤ × ℤ))
limits = at (seq bound (behind (mark m.DotDot) bound))

-- "(" expr ")"
unfoldable pub bracketed : Spells ExprTree
bracketed = within (mark m.LeftParen) expr (mark m.RightParen)

-- "clamp" limits bracketed
unfoldable pub clamp : Spells ExprTree
clamp =
    map (λ v. exprs.Clamp v.0 v.1.0.0 v.1.0.1.0 v.1.0.1.1 v.1.1) (seq (word w.Clamp) (seq limits bracketed))

-- "true" | "false"
unfoldable pub flag : Spells ExprTree
flag =
    alt (map (λ place. exprs.Flag place true) (word w.True))
    (map (λ place. exprs.Flag place false) (word w.False))

-- group | choice | table | ratio | extremum | clamp
unfoldable pub form : Spells ExprTree
form = alt group (alt choice (alt table (alt ratio (alt extremum clamp))))

-- named | Under | flag | form
unfoldable pub primary : Spells ExprTree
primary =
    alt named (alt (map (λ v. exprs.Name v.0 v.1) (at (spelling_of terminals.Under))) (alt flag form))

-- "." Number
unfoldable pub component : Spells ℕ
component = behind (mark m.Dot) number

-- { component }
unfoldable pub path : Spells (List ℕ)
path = star component

-- primary path
unfoldable pub field : Spells ExprTree
field = map (λ v. field_of v.0 v.1) (seq primary path)

-- "-" ( Number | field )
unfoldable pub negation : Spells ExprTree
negation = map (λ v. negated v.0 v.1) (seq (mark m.Minus) (alt (map inl number) (map inr field)))

-- negation | Number | field
unfoldable pub unary : Spells ExprTree
unary = alt negation (alt (map (λ v. exprs.Number v.0 (pos v.1)) (at number)) field)

-- "*" unary | "/" NONZERO
unfoldable pub product_part : Spells (ProductPart ExprTree)
product_part =
    alt (map products.Times (behind (mark m.Star) unary)) (map products.Over (behind (mark m.Slash) nonzero))

-- { product_part }
unfoldable pub product_parts : Spells (List (ProductPart ExprTree))
product_parts = star product_part

-- unary product_parts
unfoldable pub product : Spells ExprTree
product = map (λ v. product_of v.0 v.1) (seq unary product_parts)

-- "+" product | "-" product
unfoldable pub sum_part : Spells (SumPart ExprTree)
sum_part =
    alt (map sums.Plus (behind (mark m.Plus) product)) (map sums.Minus (behind (mark m.Minus) product))

-- { sum_part }
unfoldable pub sum_parts : Spells (List (SumPart ExprTree))
sum_parts = star sum_part

-- product sum_parts
unfoldable pub sum : Spells ExprTree
sum = map (λ v. sum_of v.0 v.1) (seq product sum_parts)

-- "==" | "!=" | "<" | "<=" | ">" | ">="
unfoldable pub comparison_mark : Spells CompareOp
comparison_mark =
    alt (map (λ _. ops.Equal) (mark m.Equal))
    (alt (map (λ _. ops.Differs) (mark m.Differs))
    (alt (map (λ _. ops.Less) (mark m.Less))
    (alt (map (λ _. ops.AtMost) (mark m.AtMost))
    (alt (map (λ _. ops.Greater) (mark m.Greater)) (map (λ _. ops.AtLeast) (mark m.AtLeast))))))

-- comparison_mark sum
unfoldable pub compared : Spells (CompareOp × ExprTree)
compared = seq comparison_mark sum

-- sum [ compared ]
unfoldable pub comparison : Spells ExprTree
comparison = map (λ v. compare_of v.0 v.1) (seq sum (opt compared))

-- [ "not" ] comparison
unfoldable pub inversion : Spells ExprTree
inversion = alt (map (λ v. exprs.Not v.0 v.1) (seq (word w.Not) comparison)) comparison

-- inversion { "and" inversion }
unfoldable pub inversions : Spells (List ExprTree)
inversions = separated (terminals.Word w.And) inversion

unfoldable pub conjunction : Spells ExprTree
conjunction = map (one_or exprs.And) inversions

-- conjunction { "or" conjunction }
unfoldable pub conjunctions : Spells (List ExprTree)
conjunctions = separated (terminals.Word w.Or) conjunction

unfoldable pub expression_rule : Spells ExprTree
expression_rule = map (one_or exprs.Or) conjunctions

-- ---- games: where the flag is true, branches may stand in them

abbrev pub subgame : Bool → Spells GameTree
subgame branches = hole (game branches)

-- Text | Under | value
unfoldable pub argument : Spells ArgTree
argument =
    alt (map (λ v. args.Quoted v.0 v.1) (at quoted))
    (alt (map (λ v. args.Var v.0 v.1) (at (spelling_of terminals.Under))) (map args.Val value_part))

-- argument { "," argument }
unfoldable pub some_arguments : Spells (List ArgTree)
some_arguments = commas argument

-- "(" some_arguments ")"
unfoldable pub arguments : Spells (List ArgTree)
arguments = within (mark m.LeftParen) some_arguments (mark m.RightParen)

-- Name [ arguments ]
unfoldable pub call : Spells GameTree
call = map (λ v. games.Call v.0 v.1.0 (or_empty v.1.1)) (at (seq name (opt arguments)))

-- "(" game ")"
unfoldable pub game_in_brackets : Bool → Spells GameTree
game_in_brackets branches = within (mark m.LeftParen) (subgame branches) (mark m.RightParen)

-- Text | var
unfoldable pub agent : Spells AgentTree
agent = alt (map (λ v. agents.Quoted v.0 v.1) (at quoted)) (map (λ v. agents.Var v.0 v.1) (at variable))

-- key "->" some_values ";"
unfoldable pub among_row : Spells AmongTree
among_row =
    map (λ v. record { at = v.0.0; key = v.0.1; actions = v.1 })
    (seq key (behind (mark m.Arrow) (before some_values (mark m.Semicolon))))

-- { among_row }
unfoldable pub among_rows : Spells (List AmongTree)
among_rows = star among_row

-- "among" "{" among_rows "}"
unfoldable pub among : Spells Among
among =
    map (λ v. record { at = v.0; rows = v.1 })
    (seq (word w.Among) (within (mark m.LeftBrace) among_rows (mark m.RightBrace)))

-- [ among ]
unfoldable pub among_or_all : Spells (Option Among)
among_or_all = opt among

-- agent type_list type among_or_all
unfoldable pub decided : Spells (AgentTree × (List TyTree × (TyTree × Option Among)))
decided = seq agent (seq type_list (seq ty among_or_all))

-- "dependentDecision" decided
unfoldable pub decision : Spells GameTree
decision =
    map (λ v. games.Decision v.0 v.1.0 v.1.1.0 v.1.1.1.0 v.1.1.1.1) (seq (word w.DependentDecision) decided)

-- "nature" type_list type rows
unfoldable pub nature : Spells GameTree
nature = map (λ v. games.Nature v.0 v.1.0 v.1.1.0 v.1.1.1) (seq (word w.Nature) (seq type_list (seq ty rows)))

-- [ result { "," result } ]
unfoldable pub results : Spells (List (ResultTree ExprTree))
results = commas_or_none result

-- "(" params ")"
unfoldable pub params_in_brackets : Spells (List ParamTree)
params_in_brackets = within (mark m.LeftParen) params (mark m.RightParen)

-- "(" results ")"
unfoldable pub results_in_brackets : Spells (List (ResultTree ExprTree))
results_in_brackets = within (mark m.LeftParen) results (mark m.RightParen)

-- params_in_brackets "->" results_in_brackets
unfoldable pub signature : Spells (List ParamTree × List (ResultTree ExprTree))
signature = seq params_in_brackets (behind (mark m.Arrow) results_in_brackets)

-- "forwardFunction" signature | "backwardFunction" signature
unfoldable pub function : Spells GameTree
function =
    alt (map (λ v. games.Forward v.0 v.1.0 v.1.1) (seq (word w.ForwardFunction) signature))
    (map (λ v. games.Backward v.0 v.1.0 v.1.1) (seq (word w.BackwardFunction) signature))

-- "identity" type_list type_list
unfoldable pub identity : Spells GameTree
identity = map (λ v. games.Identity v.0 v.1.0 v.1.1) (seq (word w.Identity) (seq type_list type_list))

-- Name, with its place
unfoldable pub placed_name : Spells NameTree
placed_name = map (λ v. record { at = v.0; name = v.1 }) (at name)

-- "library" Name
unfoldable pub library : Spells GameTree
library = map (λ v. games.Library v.0 v.1) (seq (word w.Library) placed_name)

-- [ keyword ":" items ";" ]
abbrev pub field_or_none : {A : Type 0} → Word → Spells (List A) → Spells (List A)
field_or_none keyword items =
    map or_empty (opt (within (word keyword) (behind (mark m.Colon) items) (mark m.Semicolon)))

unfoldable pub params_field : Word → Spells (List ParamTree)
params_field keyword = field_or_none keyword params

unfoldable pub results_field : Word → Spells (List (ResultTree ExprTree))
results_field keyword = field_or_none keyword results

unfoldable pub exprs_field : Word → Spells (List ExprTree)
exprs_field keyword = field_or_none keyword exprs_or_none

-- [ var { "," var } ]
unfoldable pub names_or_none : Spells (List NameTree)
names_or_none = commas_or_none name_tree

unfoldable pub names_field : Word → Spells (List NameTree)
names_field keyword = field_or_none keyword names_or_none

-- "operation" ":" game ";"
unfoldable pub operation : Bool → Spells GameTree
operation branches =
    within (word w.Operation) (behind (mark m.Colon) (subgame branches)) (mark m.Semicolon)

-- [ "outputs" .. ] [ "returns" .. ]
unfoldable pub line_back : Spells (List NameTree × List ExprTree)
line_back = seq (names_field w.Outputs) (exprs_field w.Returns)

-- [ "inputs" .. ] [ "feedback" .. ] operation line_back
unfoldable pub line : Bool → Spells (LineTree GameTree)
line branches =
    map (λ v. record { inputs = v.0; feedback = v.1.0; operation = v.1.1.0; outputs = v.1.1.1.0; returns = v.1.1.1.1 })
    (seq (exprs_field w.Inputs)
    (seq (names_field w.Feedback) (seq (operation branches) line_back)))

-- { line }
unfoldable pub line_list : Bool → Spells (List (LineTree GameTree))
line_list branches = star (line branches)

-- Separator line_list Separator
unfoldable pub lines : Bool → Spells (List (LineTree GameTree))
lines branches = within (place_of terminals.Separator) (line_list branches) (place_of terminals.Separator)

-- [ "inputs" .. ] [ "feedback" .. ] lines [ "outputs" .. ] [ "returns" .. ]
unfoldable pub block_inside : Bool → Spells (BlockTree GameTree)
block_inside branches =
    map (λ v. record { inputs = v.0; feedback = v.1.0; lines = v.1.1.0; outputs = v.1.1.1.0; returns = v.1.1.1.1 })
    (seq (params_field w.Inputs)
    (seq (results_field w.Feedback)
    (seq (lines branches) (seq (results_field w.Outputs) (params_field w.Returns)))))

-- "block" "{" block_inside "}"
unfoldable pub block : Bool → Spells GameTree
block branches =
    map (λ v. games.Block v.0 v.1)
    (seq (word w.Block) (within (mark m.LeftBrace) (block_inside branches) (mark m.RightBrace)))

-- "->" game ";"
unfoldable pub arm_game : Spells GameTree
arm_game = behind (mark m.Arrow) (before (subgame true) (mark m.Semicolon))

-- "(" value ")" arm_game
unfoldable pub branch_arm : Spells (ArmTree GameTree)
branch_arm =
    map (λ v. record { at = v.0; key = v.1.0; game = v.1.1 })
    (seq (mark m.LeftParen) (seq (before value_part (mark m.RightParen)) arm_game))

-- { branch_arm }
unfoldable pub branch_arms : Spells (List (ArmTree GameTree))
branch_arms = star branch_arm

-- "{" branch_arms "}"
unfoldable pub arms_in_braces : Spells (List (ArmTree GameTree))
arms_in_braces = within (mark m.LeftBrace) branch_arms (mark m.RightBrace)

-- "branch" type arms_in_braces
unfoldable pub branch : Spells GameTree
branch =
    map (λ v. games.Branch v.0 v.1.0 v.1.1)
    (seq (word w.Branch) (seq ty arms_in_braces))

-- decision | nature | function | identity | library
unfoldable pub plain_form : Spells GameTree
plain_form = alt decision (alt nature (alt function (alt identity library)))

-- call | game_in_brackets | block | plain_form
unfoldable pub plain_atom : Bool → Spells GameTree
plain_atom branches = alt call (alt (game_in_brackets branches) (alt (block branches) plain_form))

-- plain_atom, or branch where it may stand
unfoldable pub atom : Bool → Spells GameTree
atom true = alt branch (plain_atom true)
atom false = plain_atom false

-- "&&&" atom
unfoldable pub next_beside : Bool → Spells GameTree
next_beside branches = behind (mark m.Beside) (atom branches)

-- { next_beside }
unfoldable pub others_beside : Bool → Spells (List GameTree)
others_beside branches = star (next_beside branches)

-- atom others_beside
unfoldable pub beside : Bool → Spells GameTree
beside branches = map (λ v. par_onto v.0 v.1) (seq (atom branches) (others_beside branches))

-- ">>>" beside
unfoldable pub next_then : Bool → Spells GameTree
next_then branches = behind (mark m.Then) (beside branches)

-- { next_then }
unfoldable pub others_then : Bool → Spells (List GameTree)
others_then branches = star (next_then branches)

-- beside others_then
unfoldable pub game_rule : Bool → Spells GameTree
game_rule branches = map (λ v. seq_onto v.0 v.1) (seq (beside branches) (others_then branches))

-- ---- declarations

-- Name { "," Name }
unfoldable pub some_names : Spells (List NameTree)
some_names = commas placed_name

-- "{" some_names "}"
unfoldable pub cases : Spells (List NameTree)
cases = within (mark m.LeftBrace) some_names (mark m.RightBrace)

abbrev pub type_of : NameTree → List NameTree ⊎ TyTree → Decl
type_of name (inl names) = decls.Enum name.at name.name names
type_of name (inr t) = decls.Alias name.at name.name t

-- cases | type
unfoldable pub cases_or_type : Spells (List NameTree ⊎ TyTree)
cases_or_type = alt (map inl cases) (map inr ty)

-- "type" Name "=" cases_or_type ";"
unfoldable pub type_decl : Spells Decl
type_decl =
    map (λ v. type_of v.0 v.1)
    (behind (word w.Type) (seq placed_name (behind (mark m.Assign) (before cases_or_type (mark m.Semicolon)))))

-- ":" type "=" expr
unfoldable pub answer : Spells (TyTree × ExprTree)
answer = behind (mark m.Colon) (seq ty (behind (mark m.Assign) expr))

-- "fn" Name "(" params ")" answer ";"
unfoldable pub fn_decl : Spells Decl
fn_decl =
    map (λ v. decls.Fn v.0.at v.0.name v.1.0 v.1.1.0 v.1.1.1)
    (behind (word w.Fn)
    (seq placed_name
    (seq params_in_brackets (before answer (mark m.Semicolon)))))

-- "agent" | type
unfoldable pub param_kind : Spells ParamKind
param_kind = alt (map (λ _. kinds.Agent) (word w.Agent)) (map kinds.Of ty)

-- var ":" param_kind
unfoldable pub game_param : Spells GameParam
game_param =
    map (λ v. record { at = v.0.at; name = v.0.name; kind = v.1 })
    (seq name_tree (behind (mark m.Colon) param_kind))

-- game_param { "," game_param }
unfoldable pub some_game_params : Spells (List GameParam)
some_game_params = commas game_param

-- "(" some_game_params ")"
unfoldable pub game_params : Spells (List GameParam)
game_params = within (mark m.LeftParen) some_game_params (mark m.RightParen)

-- [ game_params ]
unfoldable pub game_params_or_none : Spells (List GameParam)
game_params_or_none = map or_empty (opt game_params)

-- "=" game ";"
unfoldable pub game_body : Bool → Spells GameTree
game_body branches = behind (mark m.Assign) (before (subgame branches) (mark m.Semicolon))

-- "game" Name game_params_or_none game_body
unfoldable pub game_decl : Bool → Spells Decl
game_decl branches =
    map (λ v. decls.Game v.0.at v.0.name v.1.0 v.1.1)
    (behind (word w.Game) (seq placed_name (seq game_params_or_none (game_body branches))))

-- type_decl | fn_decl | game_decl
unfoldable pub decl : Bool → Spells Decl
decl branches = alt type_decl (alt fn_decl (game_decl branches))

-- a Number that is 2
unfoldable pub second : Spells ℕ
second = map (λ t. t.value) (one terminals.Number (λ t. t.value == 2))

-- "version" second ";"
unfoldable pub header : Spells ℕ
header = within (word w.Version) second (mark m.Semicolon)

-- { decl }
unfoldable pub declarations : Bool → Spells (List Decl)
declarations branches = star (decl branches)

-- declarations | header declarations, where branches may stand behind a header alone: the version and the
-- declarations
unfoldable pub program : Spells (ℕ × List Decl)
program = alt (seq header (declarations true)) (map (λ ds. (1, ds)) (declarations false))

-- ---- strategy files

-- Text, with its place
unfoldable pub placed_quoted : Spells NameTree
placed_quoted = map (λ v. record { at = v.0; name = v.1 }) (at quoted)

-- "strategy" Text rows
unfoldable pub section : Spells Section
section =
    map (λ v. record { at = v.0; agent = v.1.0; rows = v.1.1 })
    (seq (word w.Strategy) (seq placed_quoted rows))

-- { section }
unfoldable pub strategy : Spells (List Section)
strategy = star section
