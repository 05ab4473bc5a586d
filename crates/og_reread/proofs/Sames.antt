-- When trees are the same but for their places.
use Rattle.std.proofs.Common.{◌≡◌, List, [], ◌∷◌, map, Option, refl}
use Rattle.std.specs.List.{AllZip}
use Rattle.std.specs.Option.{option_map}
use Rattle.og_syntax.specs.declared.types.NameTree.{NameTree}
use Rattle.og_syntax.specs.declared.types.ParamTree.{ParamTree}
use Rattle.og_syntax.specs.declared.types.TyTree.{TyTree}
use Rattle.og_syntax.specs.declared.values.ValueTree.{ValueTree}
use Rattle.og_syntax.specs.declared.values.RowTree.{RowTree}
use Rattle.og_syntax.specs.declared.values.EntryTree.{EntryTree}
use Rattle.og_syntax.specs.declared.expressions.ExprTree.{ExprTree}
use Rattle.og_syntax.specs.declared.expressions.ResultTree.{ResultTree}
use Rattle.og_syntax.specs.declared.games.AgentTree.{AgentTree}
use Rattle.og_syntax.specs.declared.games.ArgTree.{ArgTree}
use Rattle.og_syntax.specs.declared.games.Among.{Among}
use Rattle.og_syntax.specs.declared.games.AmongTree.{AmongTree}
use Rattle.og_syntax.specs.declared.games.GameTree.{GameTree}
use Rattle.og_syntax.specs.declared.declarations.Decl.{Decl}
use Rattle.og_syntax.specs.declared.declarations.GameParam.{GameParam}
use Rattle.og_syntax.specs.declared.declarations.ParamKind.{ParamKind}
use Rattle.og_syntax.specs.declared.strategies.Section.{Section}
use Rattle.og_syntax.specs.Unplaced as u

-- the first tree was written, and the second is read
abbrev pub SameTy : TyTree → TyTree → Type 0
SameTy a b = u.ty_unplaced b ≡ u.ty_unplaced a

abbrev pub SameName : NameTree → NameTree → Type 0
SameName a b = u.name_unplaced b ≡ u.name_unplaced a

abbrev pub SameParam : ParamTree → ParamTree → Type 0
SameParam a b = u.param_unplaced b ≡ u.param_unplaced a

abbrev pub SameValue : ValueTree → ValueTree → Type 0
SameValue a b = u.value_unplaced b ≡ u.value_unplaced a

abbrev pub SameEntry : EntryTree → EntryTree → Type 0
SameEntry a b = u.entry_unplaced b ≡ u.entry_unplaced a

abbrev pub SameRow : RowTree → RowTree → Type 0
SameRow a b = u.row_unplaced b ≡ u.row_unplaced a

abbrev pub SameExpr : ExprTree → ExprTree → Type 0
SameExpr a b = u.expr_unplaced b ≡ u.expr_unplaced a

abbrev pub SameResult : ResultTree ExprTree → ResultTree ExprTree → Type 0
SameResult a b = u.result_unplaced b ≡ u.result_unplaced a

abbrev pub SameAgent : AgentTree → AgentTree → Type 0
SameAgent a b = u.agent_unplaced b ≡ u.agent_unplaced a

abbrev pub SameArg : ArgTree → ArgTree → Type 0
SameArg a b = u.arg_unplaced b ≡ u.arg_unplaced a

abbrev pub SameAllowed : AmongTree → AmongTree → Type 0
SameAllowed a b = u.allowed_unplaced b ≡ u.allowed_unplaced a

abbrev pub SameAmong : Option Among → Option Among → Type 0
SameAmong a b = option_map u.among_unplaced b ≡ option_map u.among_unplaced a

abbrev pub SameGame : GameTree → GameTree → Type 0
SameGame a b = u.game_unplaced b ≡ u.game_unplaced a

abbrev pub SameKind : ParamKind → ParamKind → Type 0
SameKind a b = u.kind_unplaced b ≡ u.kind_unplaced a

abbrev pub SameGameParam : GameParam → GameParam → Type 0
SameGameParam a b = u.game_param_unplaced b ≡ u.game_param_unplaced a

abbrev pub SameDecl : Decl → Decl → Type 0
SameDecl a b = u.decl_unplaced b ≡ u.decl_unplaced a

abbrev pub SameSection : Section → Section → Type 0
SameSection a b = u.section_unplaced b ≡ u.section_unplaced a

-- lists whose items are the same
pub same_lists : {A B : Type 0} (f : A → B) (xs ys : List A) → AllZip (λ a b. f b ≡ f a) xs ys → map f ys ≡ map f xs
same_lists f [] [] same = refl
same_lists f (x ∷ xs) (y ∷ ys) (one, more) = λ i. one i ∷ same_lists f xs ys more i
same_lists f [] (y ∷ ys) same = absurd same
same_lists f (x ∷ xs) [] same = absurd same
