-- Whole programs: their declarations in order, then the rules on `main`.
use Rattle.std.specs.Prelude.{◌≡◌, ◌≢◌, Result, ℕ, ◌^◌, ◌==◌, nat_le, nat_lt, not, Bool, true, false, ◌&&◌, List, [], ◌∷◌, ◌++◌, length, Option, Some, None, Ok, Err, slice_get, codes}
use Rattle.og_types.specs.declared.ty.Ty.{Ty}
use Rattle.og_types.specs.declared.ty.Ty.TheOpen.{Ty-F}
use Rattle.og_types.specs.declared.ty.Ty.TheOpen as one
use Rattle.og_types.specs.declared.ty.Ty.TheViews.{out-Ty}
use Rattle.og_native.specs.declared.ports.Ports.{Ports}
use Rattle.og_expr.specs.Counts.{capped}
use Rattle.og_syntax.specs.declared.types.TyTree.{TyTree}
use Rattle.og_syntax.specs.declared.types.NameTree.{NameTree}
use Rattle.og_syntax.specs.declared.types.ParamTree.{ParamTree}
use Rattle.og_syntax.specs.declared.expressions.ExprTree.{ExprTree}
use Rattle.og_syntax.specs.declared.games.GameTree.{GameTree}
use Rattle.og_syntax.specs.declared.declarations.Decl.{Decl}
use Rattle.og_syntax.specs.declared.declarations.Decl.TheVariants as decls
use Rattle.og_syntax.specs.declared.declarations.GameParam.{GameParam}
use Rattle.og_syntax.specs.declared.declarations.ParamKind.{ParamKind}
use Rattle.og_syntax.specs.declared.declarations.ParamKind.TheVariants as kinds
use Rattle.og_syntax.specs.declared.declarations.Program.{Program}
use Rattle.og_names.specs.Names.{lookup}
use Rattle.og_typing.specs.declared.fault.WireFault.{WireFault}
use Rattle.og_typing.specs.declared.fault.WireFault.TheVariants.{Memory, Unknown, Twice, WrongType, WrongCount, NotClosed, TooBig, TooManyLines, ScaleTooLarge}
use Rattle.og_typing.specs.declared.meaning.Given.{Given}
use Rattle.og_typing.specs.declared.meaning.Given.TheVariants as given
use Rattle.og_typing.specs.declared.meaning.Meaning.{Meaning}
use Rattle.og_typing.specs.declared.meaning.Meaning.TheVariants as meanings
use Rattle.og_typing.specs.Checked.{Checked, ◌>>=◌, ◌>>◌, rule, in_turn}
use Rattle.og_typing.specs.Types.{Table, type_place, type_walk}
use Rattle.og_typing.specs.Sizes.{plus}
use Rattle.og_typing.specs.Variables.{Around, is_free, name_free, with_meaning, enum_walk, alias_walk, function_declared}
use Rattle.og_wires.specs.declared.kind.Size.{Size}
use Rattle.og_wires.specs.declared.kind.GameKind.{GameKind}
use Rattle.og_wires.specs.declared.kind.DeclaredGame.{DeclaredGame}
use Rattle.og_wires.specs.declared.programs.GameParams.{GameParams}
use Rattle.og_wires.specs.declared.programs.Declarations.{Declarations}
use Rattle.og_wires.specs.Sites.{Site, Blocks}
use Rattle.og_wires.specs.Games.{game_place, game_walk}

-- ---- parameters of games

abbrev pub is_tuple_form : {T : Type 0} → Ty-F T → Bool
is_tuple_form (one.Tuple parts) = true
is_tuple_form _ = false

abbrev pub is_tuple : Ty → Bool
is_tuple t = is_tuple_form (out-Ty t)

-- what a parameter stands for: an agent, or a value of a type that is no tuple
abbrev pub given_walk : Table Meaning → ParamKind → Checked Given
given_walk declared kinds.Agent = Ok given.Agent
given_walk declared (kinds.Of written) = do
  t ← type_walk written declared
  rule (not (is_tuple t)) (WrongType (type_place written))
  Ok (given.Value t)

abbrev pub round_params : Table Meaning → List ℕ → Table Given → Around
round_params declared own given = record { declared = declared; own = own; given = given }

-- a parameter: its name, then what it stands for
abbrev pub game_param_walk : Table Meaning → List ℕ → GameParams → GameParam → Checked GameParams
game_param_walk declared own before param = do
  rule (is_free (round_params declared own before.given) [] param.name) (Twice param.at)
  kind ← given_walk declared param.kind
  Ok (record { given = before.given ++ (param.name, kind) ∷ []; kinds = before.kinds ++ kind ∷ [] })

abbrev pub game_params_walk : Table Meaning → List ℕ → List GameParam → Checked GameParams
game_params_walk declared own = in_turn (game_param_walk declared own) (record { given = []; kinds = [] })

-- ---- declarations

-- the body of a declared game, which isn't made of too many games
abbrev pub body_walk : Site → GameTree → Checked GameKind
body_walk site body = do
  found ← game_walk body site (record { depth = 1; inside = 0 })
  rule (nat_le found.size.nodes 65536) (TooBig (game_place body))
  Ok found

abbrev pub site_of : Declarations → List ℕ → Table Given → Blocks → Site
site_of known own given blocks = record { around = round_params known.declared own given; games = known.games; blocks = blocks }

-- what is kept of a game: its parameters, then its body
abbrev pub game_kept : Blocks → ℕ → ℕ → List ℕ → Declarations → List GameParam → GameTree → Checked DeclaredGame
game_kept blocks number at name known params body = do
  found ← game_params_walk known.declared name params
  kind ← body_walk (site_of known name found.given blocks) body
  Ok (record { number = number; at = at; params = found.kinds; kind = kind })

abbrev pub with_game : Declarations → List ℕ → DeclaredGame → Declarations
with_game known name game = record {
  declared = with_meaning known.declared name (meanings.Game (capped (length known.games)));
  games = known.games ++ game ∷ [];
  families = known.families;
}

abbrev pub game_declared : Blocks → ℕ → ℕ → List ℕ → Declarations → List GameParam → GameTree → Checked Declarations
game_declared blocks number at name known params body = do
  name_free known.declared at name
  game ← game_kept blocks number at name known params body
  Ok (with_game known name game)

abbrev pub with_names : Declarations → Table Meaning → ℕ → Declarations
with_names known declared families = record { declared = declared; games = known.games; families = families }

abbrev pub enum_declared : ℕ → List ℕ → Declarations → List NameTree → Checked Declarations
enum_declared at name known cases = do
  declared ← enum_walk known.families at name known.declared cases
  Ok (with_names known declared (plus known.families 1))

abbrev pub alias_declared : ℕ → List ℕ → Declarations → TyTree → Checked Declarations
alias_declared at name known written = do
  declared ← alias_walk at name known.declared written
  Ok (with_names known declared known.families)

abbrev pub function_with_names : ℕ → ℕ → List ℕ → Declarations → List ParamTree → TyTree → ExprTree → Checked Declarations
function_with_names number at name known params answer body = do
  declared ← function_declared number at name known.declared params answer body
  Ok (with_names known declared known.families)

-- a declaration with its number
abbrev pub decl_walk : Blocks → ℕ → Declarations → Decl → Checked Declarations
decl_walk blocks number known (decls.Enum at name cases) = enum_declared at name known cases
decl_walk blocks number known (decls.Alias at name t) = alias_declared at name known t
decl_walk blocks number known (decls.Fn at name params answer body) = function_with_names number at name known params answer body
decl_walk blocks number known (decls.Game at name params body) = game_declared blocks number at name known params body

-- declarations from the number on
abbrev pub decls_walk : Blocks → ℕ → Declarations → List Decl → Checked Declarations
decls_walk blocks number known [] = Ok known
decls_walk blocks number known (decl ∷ more) = do
  next ← decl_walk blocks number known decl
  decls_walk blocks (plus number 1) next more

-- ---- the end

abbrev pub main_at : ℕ → Option DeclaredGame → Checked DeclaredGame
main_at at None = Err (Unknown at)
main_at at (Some game) = Ok game

abbrev pub main_named : ℕ → List DeclaredGame → Option Meaning → Checked DeclaredGame
main_named at games (Some (meanings.Game number)) = main_at at (slice_get games number)
main_named at games (Some _) = Err (Unknown at)
main_named at games None = Err (Unknown at)

-- the game `main`, which is missed at the end of the text
abbrev pub main_walk : ℕ → Declarations → Checked DeclaredGame
main_walk at known = main_named at known.games (lookup (codes "main") known.declared)

abbrev pub is_closed : Ports → Bool
is_closed p =
    ((length p.inputs == 0) && (length p.feedback == 0)) && ((length p.outputs == 0) && (length p.returns == 0))

-- at most 4,096 flat lines, and at most 1,048,576 of what they weigh, with a scale below 2^62
abbrev pub size_fits : ℕ → Size → Checked (Unit {0})
size_fits at size = do
  rule (nat_le size.lines 4096) (TooManyLines at)
  rule (nat_le size.weight 1048576) (TooBig at)
  rule (nat_lt size.scale (2 ^ 62)) (ScaleTooLarge at)

-- the rules on `main`, at its name
abbrev pub main_fits : DeclaredGame → Checked (Unit {0})
main_fits main = do
  rule (length main.params == 0) (WrongCount main.at)
  rule (is_closed main.kind.ports) (NotClosed main.at)
  size_fits main.at main.kind.size

abbrev pub no_names : Declarations
no_names = record { declared = []; games = []; families = 0 }

-- `main` is there, and as it should be
abbrev pub end_walk : ℕ → Declarations → Checked (Unit {0})
end_walk at known = do
  main ← main_walk at known
  main_fits main

-- its declarations in order, then the rules on `main`
abbrev pub all_walk : Blocks → Program → Checked Declarations
all_walk blocks p = do
  known ← decls_walk blocks 0 no_names p.decls
  end_walk p.at known
  Ok known

-- a whole program, which has fewer than 2^32 declarations
abbrev pub program_walk : Blocks → Program → Checked Declarations
program_walk blocks p = do
  rule (nat_lt (length p.decls) (2 ^ 32)) (TooBig p.at)
  all_walk blocks p

-- The program breaks no rule.
pub record IsWired (blocks : Blocks) (p : Program) : Type 0 where
  pub known : Declarations
  pub walks : program_walk blocks p ≡ Ok known

-- The program breaks this rule first.
abbrev pub Breaks : Blocks → Program → WireFault → Type 0
Breaks blocks p fault = program_walk blocks p ≡ Err fault

-- A call answers whether the program breaks no rule, or the first one; want of memory alone says nothing.
abbrev pub WiresOrBreaks : Blocks → Program → Result (Unit {0}) WireFault → Type 0
WiresOrBreaks blocks p (Ok _) = IsWired blocks p
WiresOrBreaks blocks p (Err fault) = fault ≢ Memory → Breaks blocks p fault

-- A game `main` is declared, without parameters and without ports, and is as large as it may be at most.
pub record HasMain (known : Declarations) : Type 0 where
  pub number : ℕ
  pub game : DeclaredGame
  pub named : lookup (codes "main") known.declared ≡ Some (meanings.Game number)
  pub kept : slice_get known.games number ≡ Some game
  pub no_params : (length game.params == 0) ≡ true
  pub closed : is_closed game.kind.ports ≡ true
  pub few_lines : nat_le game.kind.size.lines 4096 ≡ true
  pub light : nat_le game.kind.size.weight 1048576 ≡ true
  pub small_scale : nat_lt game.kind.size.scale (2 ^ 62) ≡ true
