-- The canonical text of programs.
use Rattle.std.specs.Prelude.{ℕ, ◌==◌, if◌then◌else◌, List, [], ◌++◌, map, flat_map}
use Rattle.og_lex.specs.declared.token.Word.TheVariants as words
use Rattle.og_lex.specs.declared.token.Mark.TheVariants as marks
use Rattle.og_syntax.specs.declared.types.NameTree.{NameTree}
use Rattle.og_syntax.specs.declared.types.ParamTree.{ParamTree}
use Rattle.og_syntax.specs.declared.types.TyTree.{TyTree}
use Rattle.og_syntax.specs.declared.declarations.Program.{Program}
use Rattle.og_syntax.specs.declared.declarations.Decl.{Decl}
use Rattle.og_syntax.specs.declared.declarations.Decl.TheVariants as decls
use Rattle.og_syntax.specs.declared.declarations.GameParam.{GameParam}
use Rattle.og_syntax.specs.declared.declarations.ParamKind.{ParamKind}
use Rattle.og_syntax.specs.declared.declarations.ParamKind.TheVariants as kinds
use Rattle.og_canonical.specs.Tokens.{spaced, mark, word, number, in_parens, in_braces, optional}
use Rattle.og_canonical.specs.Types.{ty_text, params_text, names_text}
use Rattle.og_canonical.specs.Expressions.{expr_text}
use Rattle.og_canonical.specs.Games.{game_text}

unfoldable pub kind_text : ParamKind → List ℕ
kind_text kinds.Agent = word words.Agent
kind_text (kinds.Of t) = ty_text t

unfoldable pub game_param_text : GameParam → List ℕ
game_param_text param = spaced param.name ++ mark marks.Colon ++ kind_text param.kind

-- a type by its cases
unfoldable pub enum_text : List ℕ → List NameTree → List ℕ
enum_text name cases = word words.«Type» ++ spaced name ++ mark marks.Assign ++ in_braces (names_text cases)

-- a name for a type
unfoldable pub alias_text : List ℕ → TyTree → List ℕ
alias_text name t = word words.«Type» ++ spaced name ++ mark marks.Assign ++ ty_text t

-- a function up to its `=`
unfoldable pub fn_front : List ℕ → List ParamTree → TyTree → List ℕ
fn_front name params answer =
    word words.Fn ++ spaced name ++ in_parens (params_text params)
    ++ mark marks.Colon ++ ty_text answer ++ mark marks.Assign

-- a game up to its `=`
unfoldable pub game_front : List ℕ → List GameParam → List ℕ
game_front name params = word words.Game ++ spaced name ++ optional (map game_param_text params) ++ mark marks.Assign

unfoldable pub decl_text : Decl → List ℕ
decl_text (decls.Enum at name cases) = enum_text name cases ++ mark marks.Semicolon
decl_text (decls.Alias at name t) = alias_text name t ++ mark marks.Semicolon
decl_text (decls.Fn at name params answer body) =
    fn_front name params answer ++ expr_text body ++ mark marks.Semicolon
decl_text (decls.Game at name params body) = game_front name params ++ game_text body ++ mark marks.Semicolon

-- what stands first: the version where it is 2, else nothing
unfoldable pub version_text : ℕ → List ℕ
version_text version = if version == 2 then word words.Version ++ number 2 ++ mark marks.Semicolon else []

abbrev pub program_text : Program → List ℕ
program_text program = version_text program.version ++ flat_map decl_text program.decls
